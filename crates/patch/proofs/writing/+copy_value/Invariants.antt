-- `patch::writing::copy_value` calls itself on rows further on, so the rows that are left of the table are the measure. Its loop is a
-- walk along the values inside. Assumes nothing.
use Prim.Native.Nat.{◌-◌}
use mathlib.Core.Bool.{true}
use lib.ListN.{length}
use Rattle.text.specs.Tree.{Forest}
use Rattle.text.specs.Firsts.{inside_at}
use Rattle.json_reader.specs.Lookup.{KnownAt}
use Rattle.patch.proofs.Putting.Walks.{Passing, Walk}
use Rattle.patch.proofs.Putting.Copies.{inside_of}
use Rattle.patch.proofs.writing.+copy_value.Given as goal

abbrev pub decreases-copy_value : goal.decreases-copy_value
decreases-copy_value l = length l.table.now - l.row

abbrev pub invariant-loop-m : goal.invariant-loop-m
invariant-loop-m l =
    Passing l.row l.end l.m l.initial.out l.out
    × ((g : Forest) → KnownAt l.table l.row g
    → Walk l.table l.end (inside_of l.text l.k) l.initial.out l.initial.p (inside_of l.text l.k (inside_at g) true) l.out l.p l.first l.m)

abbrev pub decreases-loop-m : goal.decreases-loop-m
decreases-loop-m l = l.end - l.m
