-- `pieces::spots::tails_code` meets its contract: one byte left, or more. Assumes nothing.
use native.Mathlib.Omega.{arith}
use Rattle.laws.proofs.Picks.{picks}
use Rattle.wire.specs.Held.{tails_code}
use Rattle.pieces.proofs.spots.tails_code.Goals as goal

pub returns-in-0 : goal.returns-in-0
unfolding tails_code
returns-in-0 c = record { value = rw c.in-0.is; small = omega arith }

pub returns-in_default : goal.returns-in_default
unfolding tails_code
returns-in_default c = record { value = search picks; small = omega arith }
