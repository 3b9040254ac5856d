-- `patch::marks::all_at` meets its contract: up to the place at hand all are the cue. Assumes nothing.
use Prim.Native.Nat.{◌-◌, ◌≤◌}
use Rattle.patch.specs.Marks.{AllAt}
use Rattle.patch.proofs.marks.all_at.Given as goal

abbrev pub invariant-loop-i : goal.invariant-loop-i
invariant-loop-i l = (l.lo ≤ l.i) × (l.i ≤ l.hi) × AllAt l.cues l.lo l.i l.cue

abbrev pub decreases-loop-i : goal.decreases-loop-i
decreases-loop-i l = l.hi - l.i
