-- `fields::walk::list_names` meets its contract: the places so far, and then those that are left. Assumes nothing.
use Prim.Native.Nat.{◌-◌}
use lib.ListN.{length}
use Rattle.fields.proofs.Members.{Listing}
use Rattle.fields.proofs.walk.list_names.Given as goal

abbrev pub invariant-loop-at : goal.invariant-loop-at
invariant-loop-at l = Listing l.packed l.from l.end (length l.initial.store) l.store l.n l.at

abbrev pub decreases-loop-at : goal.decreases-loop-at
decreases-loop-at l = l.end - l.at
