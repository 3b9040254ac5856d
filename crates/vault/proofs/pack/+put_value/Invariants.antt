-- The measure: the rows that are left of the table. And what holds at the head of the loop along the values inside a container: some are
-- laid. Assumes nothing.
use Rattle.std.proofs.Common.{◌-◌, length}
use Rattle.text.specs.Tree.{Forest}
use Rattle.text.specs.Firsts.{inside_at}
use Rattle.json_reader.specs.Lookup.{KnownAt}
use Rattle.vault.proofs.Items.{items_from, Passing, Filling}
use Rattle.vault.proofs.pack.+put_value.Given as goal

abbrev pub decreases-put_value : goal.decreases-put_value
decreases-put_value l = length l.table.now - l.row

abbrev pub invariant-loop-m : goal.invariant-loop-m
invariant-loop-m l =
    Passing l.row l.end l.m l.initial.out l.out
    × ((g : Forest) → KnownAt l.table l.row g
    → Filling l.text l.table l.k l.end l.initial.out l.initial.p (items_from l.text l.k (inside_at g)) l.out l.p l.m)

abbrev pub decreases-loop-m : goal.decreases-loop-m
decreases-loop-m l = l.end - l.m
