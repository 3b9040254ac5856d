-- `pointers::parts::written_end` meets its contract: each turn passes one byte more. The measure is what is left of the key.
-- Assumes nothing.
use Prim.Native.Nat.{◌-◌}
use lib.ListN.{length}
use Rattle.pointers.specs.Parts.{RunTo}
use Rattle.pointers.proofs.parts.written_end.Given as goal

abbrev pub invariant-loop-from : goal.invariant-loop-from
invariant-loop-from l = RunTo l.key l.stop l.from l.at

abbrev pub decreases-loop-from : goal.decreases-loop-from
decreases-loop-from l = length l.key - l.at
