-- The loop's invariant: the best of the entries from `i` on. Assumes nothing.
use Prim.Native.Nat.{◌-◌, ◌≤◌}
use mathlib.Core.Path.{◌≡◌}
use Rattle.patch.specs.Conditions.{least_row}
use Rattle.patch.proofs.conditions.least.Given as goal

abbrev pub invariant-loop-i : goal.invariant-loop-i
invariant-loop-i l = (l.i ≤ l.n) × (l.best ≡ least_row l.fault l.text l.table l.rows l.n l.walks l.i (l.n - l.i))

abbrev pub decreases-loop-i : goal.decreases-loop-i
decreases-loop-i l = l.i
