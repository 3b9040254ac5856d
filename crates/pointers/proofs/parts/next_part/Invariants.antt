-- `pointers::parts::next_part` meets its contract. Assumes nothing.
use Rattle.std.specs.Prelude.{Option}
use Rattle.json_reader.specs.declared.decode.Cursor.{Cursor}
use mathlib.Core.Path.{◌≡◌}
use lib.ListN.{length}
use Rattle.json_reader.specs.Cursors.{rest}
use Rattle.contact.specs.Pointer.{pointer_of}
use Rattle.pointers.specs.Parts.{beyond, Crosses}
use Rattle.pointers.proofs.parts.next_part.Given as goal

abbrev pub invariant-loop-b : goal.invariant-loop-b
invariant-loop-b l = (beyond (pointer_of (rest l.key l.c)) ≡ beyond (pointer_of (rest l.key l.initial.c))) × ((r : Option Cursor) → Crosses l.key l.c r → Crosses l.key l.initial.c r)

abbrev pub decreases-loop-b : goal.decreases-loop-b
decreases-loop-b l = length (rest l.key l.c)
