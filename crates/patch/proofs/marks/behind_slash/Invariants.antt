-- `patch::marks::behind_slash` meets its contract: each turn passes a byte that is no slash. Assumes nothing.
use Prim.Native.Nat.{◌-◌, ◌≤◌}
use Rattle.patch.proofs.Listing.Steps.{NoSlash}
use Rattle.patch.proofs.marks.behind_slash.Given as goal

abbrev pub invariant-loop-to : goal.invariant-loop-to
invariant-loop-to l = (l.at ≤ l.to) × NoSlash l.key l.at l.to

abbrev pub decreases-loop-to : goal.decreases-loop-to
decreases-loop-to l = l.most - l.to
