-- `pointers::parts::part_byte` meets its contract. Assumes nothing.
use Rattle.json_reader.specs.Cursors.{rest}
use mathlib.Core.Path.{sym, ◌∙◌}
use Rattle.pointers.proofs.Laws.Parts.{part_tilde, part_plain}
use borrow.Author.Tests.{ne_eqb}
use Rattle.pointers.specs.Parts.{part_by}
use Rattle.pointers.proofs.parts.part_byte.Goals as goal

pub returns-in_err-b : goal.returns-in_err-b
unfolding part_by
returns-in_err-b c =
    let next_byte = c.next_byte in
    rw c.from_residual.ensures
    (record { result_value = rw (← next_byte.ensures.result_value, c.in_err-b.was); is = rw (← next_byte.ensures.is, c.in_err-b.was) })

pub returns-then-b-eq47 : goal.returns-then-b-eq47
unfolding part_by
returns-then-b-eq47 c =
    let next_byte = c.next_byte in
    let b = c.in_ok-b.was in
    record { result_value = rw (← next_byte.ensures.result_value, b, c.if-b-eq47.true); is = rw (← next_byte.ensures.is, b, c.if-b-eq47.true) }

pub returns-then-b-eq126 : goal.returns-then-b-eq126
unfolding part_by
returns-then-b-eq126 c =
    let next_byte = c.next_byte in
    let tilde = c.if-b-eq126.true in record { result_value = rw (← next_byte.ensures.result_value, c.in_ok-b.was, tilde) (c.tilde_byte.ensures.result_value ∙ sym (part_tilde _)); is = rw (← next_byte.ensures.is, c.in_ok-b.was, tilde) c.tilde_byte.ensures.is }

pub returns : goal.returns
unfolding part_by
returns c =
    let a = c.args in
    let next_byte = c.next_byte in
    let slash = c.if-b-eq47.false in
    let tilde = c.if-b-eq126.false in record { result_value = rw (← next_byte.ensures.result_value, c.in_ok-b.was) (sym (part_plain _ (rest a.key.now c.in_ok-b.on) slash tilde)); is = rw (← next_byte.ensures.is, c.in_ok-b.was, ne_eqb _ 47 slash, ne_eqb _ 126 tilde) }
