-- `vault::contents::put_inner` meets its contract: the bytes that stand for themselves, and what is left. Assumes nothing.
use Rattle.laws.specs.Lists.{part_of}
use Rattle.text.specs.Strings.{decode_from}
use Rattle.output.proofs.Bytes.{wrote_then}
use Rattle.vault.proofs.Decoding.{raw_decoded}
use Rattle.vault.proofs.contents.put_inner.Goals as goal

pub returns : goal.returns
returns c =
    let inner = c.args.inner.now in
    let end = c.raw_end-end in
    rw (raw_decoded inner end.ensures)
    (wrote_then (part_of inner 0 end.result) (decode_from inner end.result) c.put_run-p.ensures c.put_rest.ensures)
