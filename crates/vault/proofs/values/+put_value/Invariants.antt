-- The measure: the containers that may still be opened. And what holds at the head of the loop: the items up to a place were written.
-- Assumes nothing.
use Rattle.std.proofs.Common.{◌-◌}
use Rattle.packing.specs.Unpacked.{value_of}
use Rattle.vault.specs.Laid.{bracket_of}
use Rattle.vault.proofs.Members.{Onward}
use Rattle.vault.proofs.values.+put_value.Given as goal

abbrev pub decreases-put_value : goal.decreases-put_value
decreases-put_value l = l.depth

abbrev pub invariant-loop-i : goal.invariant-loop-i
invariant-loop-i l =
    Onward l.packed (bracket_of l.field.tag) (value_of (l.depth - 1)) l.field.from l.field.end l.initial.out l.initial.p l.out l.p l.i

abbrev pub decreases-loop-i : goal.decreases-loop-i
decreases-loop-i l = l.field.end - l.i
