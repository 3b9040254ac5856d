-- `patch::marks::advance_each` meets its contract: the run has gone on up to the place at hand. Assumes nothing.
use Prim.Native.Nat.{◌-◌, ◌≤◌}
use mathlib.Core.Path.{◌≡◌}
use lib.ListN.{length}
use Rattle.patch.specs.Marks.{Advanced}
use Rattle.patch.proofs.marks.advance_each.Given as goal

abbrev pub invariant-loop-i : goal.invariant-loop-i
invariant-loop-i l = (length l.cues ≡ length l.initial.cues) × (l.lo ≤ l.i) × (l.i ≤ l.hi) × Advanced l.ptext l.ptable l.rows l.lo l.i l.initial.cues l.cues

abbrev pub decreases-loop-i : goal.decreases-loop-i
decreases-loop-i l = l.hi - l.i
