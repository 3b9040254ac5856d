-- `pieces::runs::number_run` meets its contract: each turn goes on over digits and then over one byte of the number. The measure is what is left of the
-- text. Assumes nothing.
use Prim.Native.Nat.{◌-◌, ◌≤◌, ◌<◌}
use lib.ListN.{length}
use Rattle.pieces.specs.Passing.{Leads}
use Rattle.pieces.proofs.runs.number_run.Given as goal

abbrev pub invariant-loop-start : goal.invariant-loop-start
invariant-loop-start l = Leads l.start l.text l.from l.spot l.at × (14 ≤ l.spot) × (l.spot < 22)

abbrev pub decreases-loop-start : goal.decreases-loop-start
decreases-loop-start l = length l.text - l.at
