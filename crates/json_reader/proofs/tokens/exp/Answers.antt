-- `json_reader::tokens::exp` meets its contract: its tests are those of `exp_at`. Assumes nothing.
use native.Mathlib.Omega.{arith}
use Rattle.laws.proofs.Places.{inside}
use Rattle.laws.proofs.Picks.{picks}
use Rattle.text.specs.Tokens.{exp_at}
use Rattle.json_reader.proofs.tokens.exp.Goals as goal

pub overflow_add-at : goal.overflow_add-at
overflow_add-at c = let i = inside c.args.text.now c.args.at (omega arith) in omega arith

pub returns-then-b-eq-SMALL_E : goal.returns-then-b-eq-SMALL_E
unfolding exp_at
returns-then-b-eq-SMALL_E c = rw (← c.peek-b.ensures.value, ← c.sign_end.ensures, ← c.digits.ensures) (search picks)

pub overflow_add-at-then-b-eq-LARGE_E : goal.overflow_add-at-then-b-eq-LARGE_E
overflow_add-at-then-b-eq-LARGE_E c =
    let i = inside c.args.text.now c.args.at (omega arith) in omega arith

pub returns-then-b-eq-LARGE_E : goal.returns-then-b-eq-LARGE_E
unfolding exp_at
returns-then-b-eq-LARGE_E c = rw (← c.peek-b.ensures.value, ← c.sign_end-then-b-eq-LARGE_E.ensures, ← c.digits-then-b-eq-LARGE_E.ensures) (search picks)

pub returns : goal.returns
unfolding exp_at
returns c = rw (← c.peek-b.ensures.value) (search picks)
