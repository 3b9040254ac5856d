-- `json_reader::tokens::sign_end` meets its contract: its tests are those of `sign_end`. Assumes nothing.
use native.Mathlib.Omega.{arith}
use Rattle.laws.proofs.Places.{inside}
use Rattle.laws.proofs.Picks.{picks}
use Rattle.text.specs.Tokens.{sign_end}
use Rattle.json_reader.proofs.tokens.sign_end.Goals as goal

pub overflow_add-result : goal.overflow_add-result
overflow_add-result c = let i = inside c.args.text.now c.args.at (omega arith) in omega arith

pub returns-then-b-eq-MINUS : goal.returns-then-b-eq-MINUS
unfolding sign_end
returns-then-b-eq-MINUS c = rw (← c.peek-b.ensures.value) (search picks)

pub overflow_add-result-then-b-eq-PLUS : goal.overflow_add-result-then-b-eq-PLUS
overflow_add-result-then-b-eq-PLUS c =
    let i = inside c.args.text.now c.args.at (omega arith) in omega arith

pub returns-then-b-eq-PLUS : goal.returns-then-b-eq-PLUS
unfolding sign_end
returns-then-b-eq-PLUS c = rw (← c.peek-b.ensures.value) (search picks)

pub returns : goal.returns
unfolding sign_end
returns c = rw (← c.peek-b.ensures.value) (search picks)
