-- `json_reader::tokens::int` meets its contract: its test is that of `int_at`. Assumes nothing.
use native.Mathlib.Omega.{arith}
use Rattle.laws.proofs.Places.{inside}
use Rattle.laws.proofs.Picks.{picks}
use Rattle.text.specs.Tokens.{int_at}
use Rattle.json_reader.proofs.tokens.int.Goals as goal

pub overflow_add-result : goal.overflow_add-result
overflow_add-result c = let i = inside c.args.text.now c.args.at (omega arith) in omega arith

pub returns-then-peek-eq-ZERO : goal.returns-then-peek-eq-ZERO
unfolding int_at
returns-then-peek-eq-ZERO c = rw (← c.peek.ensures.value) (search picks)

pub returns : goal.returns
unfolding int_at
returns c = rw (← c.peek.ensures.value, ← c.digits.ensures) (search picks)
