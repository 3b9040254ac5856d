-- `pieces::spots::four_code` meets its contract: an arm for each number of digits. Assumes nothing.
use native.Mathlib.Omega.{arith}
use Rattle.laws.proofs.Picks.{picks}
use Rattle.wire.specs.Held.{four_code}
use Rattle.pieces.proofs.spots.four_code.Goals as goal

pub returns-in-3 : goal.returns-in-3
unfolding four_code
returns-in-3 c = record { value = rw c.in-3.is; small = omega arith }

pub returns-in-2 : goal.returns-in-2
unfolding four_code
returns-in-2 c = record { value = rw c.in-2.is; small = omega arith }

pub returns-in-1 : goal.returns-in-1
unfolding four_code
returns-in-1 c = record { value = rw c.in-1.is; small = omega arith }

pub returns-in_default : goal.returns-in_default
unfolding four_code
returns-in_default c = record { value = search picks; small = omega arith }
