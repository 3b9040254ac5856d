-- `vault::contents::put_rest` meets its contract: what is left to write are the bytes that the cursor has still to hand out. Assumes nothing.
use lib.ListN.{length}
use Rattle.json_reader.specs.Cursors.{rest}
use Rattle.output.proofs.Bytes.{BytesLeft}
use Rattle.vault.proofs.contents.put_rest.Given as goal

abbrev pub invariant-loop-b : goal.invariant-loop-b
invariant-loop-b l = BytesLeft l.initial.out l.initial.p (rest l.inner l.initial.c) l.out l.p (rest l.inner l.c)

abbrev pub decreases-loop-b : goal.decreases-loop-b
decreases-loop-b l = length (rest l.inner l.c)
