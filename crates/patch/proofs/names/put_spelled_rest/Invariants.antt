-- `patch::names::put_spelled_rest` meets its contract: what is left to write are the bytes that the cursor has still to hand out, and the quote.
-- Assumes nothing.
use lib.ListN.{length}
use Rattle.json_reader.specs.Cursors.{rest}
use Rattle.pointers.specs.Parts.{part_left}
use Rattle.patch.specs.Spelled.{spelled_rest}
use Rattle.output.proofs.Bytes.{BytesLeft}
use Rattle.patch.proofs.names.put_spelled_rest.Given as goal

abbrev pub invariant-loop-b : goal.invariant-loop-b
invariant-loop-b l = BytesLeft l.initial.out l.initial.p (spelled_rest (part_left (rest l.key l.initial.c))) l.out l.p (spelled_rest (part_left (rest l.key l.c)))

abbrev pub decreases-loop-b : goal.decreases-loop-b
decreases-loop-b l = length (part_left (rest l.key l.c))
