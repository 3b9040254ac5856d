-- `pointers::keys::parts_order` meets its contract. Assumes nothing.
use mathlib.Core.Path.{◌≡◌}
use lib.ListN.{length}
use Rattle.json_reader.specs.Cursors.{rest}
use Rattle.contact.specs.Pointer.{pointer_of, parts}
use Rattle.pointers.specs.Pointers.{pointer_order, pointer_from}
use Rattle.pointers.proofs.keys.parts_order.Given as goal

abbrev pub invariant-loop-x : goal.invariant-loop-x
invariant-loop-x l = pointer_order (pointer_of (rest l.a l.x)) (pointer_of (rest l.b l.y)) ≡ pointer_order (pointer_from l.a l.from) (pointer_from l.b l.from)

abbrev pub decreases-loop-x : goal.decreases-loop-x
decreases-loop-x l = length (parts (pointer_of (rest l.a l.x)))
