-- The loop's invariant: no more values were passed than rows, and of all values those from `at` on are left. Assumes nothing.
use Prim.Native.Nat.{◌+◌, ◌≤◌, ◌-◌}
use Rattle.patch.proofs.Listing.Filling.{Counting}
use Rattle.patch.proofs.entries.count.Given as goal

abbrev pub invariant-loop-at : goal.invariant-loop-at
invariant-loop-at l = (l.n + l.from ≤ l.at) × Counting l.table l.from l.end l.n l.at

abbrev pub decreases-loop-at : goal.decreases-loop-at
decreases-loop-at l = l.end - l.at
