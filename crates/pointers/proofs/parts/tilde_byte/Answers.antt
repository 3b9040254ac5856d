-- `pointers::parts::tilde_byte` meets its contract. Assumes nothing.
use Rattle.laws.proofs.Picks.{picks}
use Rattle.pointers.specs.Parts.{tilde_left, tilde_next}
use Rattle.pointers.proofs.parts.tilde_byte.Goals as goal

pub returns-in_default : goal.returns-in_default
unfolding tilde_left tilde_next
returns-in_default c = record { result_value = rw (← c.next_byte.ensures.result_value, c.in_default.is); is = rw (← c.next_byte.ensures.is, c.in_default.is) }

pub returns-then-b-eq49 : goal.returns-then-b-eq49
unfolding tilde_left tilde_next
returns-then-b-eq49 c =
    let next_byte = c.next_byte in
    record { result_value = rw (← next_byte.ensures.result_value, c.in-Some.is) (search picks); is = rw (← next_byte.ensures.is, c.in-Some.is) (search picks) }

pub returns-then-b-eq48 : goal.returns-then-b-eq48
unfolding tilde_left tilde_next
returns-then-b-eq48 c =
    let next_byte = c.next_byte in
    record { result_value = rw (← next_byte.ensures.result_value, c.in-Some.is) (search picks); is = rw (← next_byte.ensures.is, c.in-Some.is) (search picks) }

pub returns : goal.returns
unfolding tilde_left tilde_next
returns c =
    let next_byte = c.next_byte in
    record { result_value = rw (← next_byte.ensures.result_value, c.in-Some.is) (search picks); is = rw (← next_byte.ensures.is, c.in-Some.is) (search picks) }
