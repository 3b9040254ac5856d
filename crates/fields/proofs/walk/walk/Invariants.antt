-- `fields::walk::walk` meets its contract: what the walk says from a place on is what it says from the start on. Assumes nothing.
use Prim.Native.Nat.{◌-◌}
use lib.ListN.{length}
use Rattle.fields.proofs.Turns.{Walking}
use Rattle.fields.proofs.walk.walk.Given as goal

abbrev pub invariant-loop-at : goal.invariant-loop-at
invariant-loop-at l = Walking l.packed (length l.initial.store) (length l.initial.scratch) l.store l.scratch l.at l.n

abbrev pub decreases-loop-at : goal.decreases-loop-at
decreases-loop-at l = length l.packed - l.at
