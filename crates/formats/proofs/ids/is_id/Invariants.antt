-- `formats::ids::is_id` meets its contract: byte by byte, after so many that passed. The measure is the number of bytes that the cursor has left.
-- Assumes nothing.
use mathlib.Core.Path.{◌≡◌}
use Prim.Native.Nat.{◌≤◌}
use lib.ListN.{length}
use Rattle.text.specs.Strings.{decode}
use Rattle.json_reader.specs.Cursors.{rest}
use Rattle.contact.specs.Values.{is_id}
use Rattle.formats.proofs.Laws.Ids.{id_after}
use Rattle.formats.proofs.ids.is_id.Given as goal

abbrev pub invariant-loop-b : goal.invariant-loop-b
invariant-loop-b l = (id_after l.passed (rest l.name l.at) ≡ is_id (decode l.name)) × (l.passed ≤ 255)

abbrev pub decreases-loop-b : goal.decreases-loop-b
decreases-loop-b l = length (rest l.name l.at)
