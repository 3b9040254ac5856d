-- The loop's invariant: the list so far, with the rows of the values that stand from `at` on, is that of all.
-- Assumes nothing.
use Prim.Native.Nat.{◌≤◌, ◌-◌}
use mathlib.Core.Path.{◌≡◌}
use lib.ListN.{length}
use Rattle.patch.proofs.Listing.Filling.{Filling}
use Rattle.patch.proofs.entries.collect.Given as goal

abbrev pub invariant-loop-at : goal.invariant-loop-at
invariant-loop-at l = (length l.rows ≡ length l.initial.rows) × (l.n ≤ length l.rows) × Filling l.table l.from l.end l.rows l.n l.at

abbrev pub decreases-loop-at : goal.decreases-loop-at
decreases-loop-at l = l.end - l.at
