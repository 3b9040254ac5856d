-- `json_reader::tokens::minus_end` meets its contract: its test is that of `minus_end`. Assumes nothing.
use native.Mathlib.Omega.{arith}
use Rattle.laws.proofs.Places.{inside}
use Rattle.laws.proofs.Picks.{picks}
use Rattle.text.specs.Tokens.{minus_end}
use Rattle.json_reader.proofs.tokens.minus_end.Goals as goal

pub overflow_add-result : goal.overflow_add-result
overflow_add-result c = let i = inside c.args.text.now c.args.at (omega arith) in omega arith

pub returns-then-peek-eq-MINUS : goal.returns-then-peek-eq-MINUS
unfolding minus_end
returns-then-peek-eq-MINUS c = rw (← c.peek.ensures.value) (search picks)

pub returns-else-peek-eq-MINUS : goal.returns-else-peek-eq-MINUS
unfolding minus_end
returns-else-peek-eq-MINUS c = rw (← c.peek.ensures.value) (search picks)
