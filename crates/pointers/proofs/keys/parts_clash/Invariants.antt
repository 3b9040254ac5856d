-- `pointers::keys::parts_clash` meets its contract. Assumes nothing.
use mathlib.Core.Path.{◌≡◌}
use lib.ListN.{length}
use Rattle.json_reader.specs.Cursors.{rest}
use Rattle.contact.specs.Pointer.{pointer_of, parts, clash}
use Rattle.pointers.specs.Pointers.{pointer_from}
use Rattle.pointers.proofs.keys.parts_clash.Given as goal

abbrev pub invariant-loop-x : goal.invariant-loop-x
invariant-loop-x l = clash (pointer_of (rest l.a l.x)) (pointer_of (rest l.b l.y)) ≡ clash (pointer_from l.a l.from) (pointer_from l.b l.from)

abbrev pub decreases-loop-x : goal.decreases-loop-x
decreases-loop-x l = length (parts (pointer_of (rest l.a l.x)))
