-- `pointers::parts::written_order` meets its contract: the order of what is left at the two places is that of what was left at first. Each turn passes
-- what they have in common and reads a glyph of each, and the laws of two glyphs say what follows. The measure is what is left of the part. Assumes nothing.
use Prim.Native.Nat.{◌-◌, ◌≤◌}
use mathlib.Core.Path.{◌≡◌}
use lib.ListN.{length}
use Rattle.laws.specs.Order.{order_of}
use Rattle.pointers.specs.Parts.{left_at}
use Rattle.pointers.proofs.parts.written_order.Given as goal

-- no place is past both its start and the end, so none wraps
abbrev pub invariant-loop-p : goal.invariant-loop-p
invariant-loop-p g l =
    (order_of (left_at g.A.Kind.part l.key l.i) (left_at g.B.Kind.part l.name l.j) ≡ order_of (left_at g.A.Kind.part l.key l.from) (left_at g.B.Kind.part l.name l.name_from))
    × (l.i - l.from ≤ length l.key - l.from)
    × (l.j - l.name_from ≤ length l.name - l.name_from)

abbrev pub decreases-loop-p : goal.decreases-loop-p
decreases-loop-p g l = length (left_at g.A.Kind.part l.key l.i)
