-- `json_reader::tokens::frac` meets its contract: its test is that of `frac_at`. Assumes nothing.
use native.Mathlib.Omega.{arith}
use Rattle.laws.proofs.Places.{inside}
use Rattle.laws.proofs.Picks.{picks}
use Rattle.text.specs.Tokens.{frac_at}
use Rattle.json_reader.proofs.tokens.frac.Goals as goal

pub overflow_add-at : goal.overflow_add-at
overflow_add-at c = let i = inside c.args.text.now c.args.at (omega arith) in omega arith

pub returns-then-peek-eq-POINT : goal.returns-then-peek-eq-POINT
unfolding frac_at
returns-then-peek-eq-POINT c = rw (← c.peek.ensures.value, ← c.digits.ensures) (search picks)

pub returns : goal.returns
unfolding frac_at
returns c = rw (← c.peek.ensures.value) (search picks)
