-- `vault::contents::put_rest` meets its contract: what is left to write are the bytes that the cursor has still to hand out. Assumes nothing.
use mathlib.Core.List.{[], ◌∷◌}
use native.Mathlib.Omega.{arith}
use Rattle.text.specs.Utf8.{conts}
use Rattle.json_reader.specs.Cursors.{rest}
use Rattle.json_reader.proofs.Unread.{byte_left, none_left}
use Rattle.output.proofs.Bytes.{left_on, left_as, left_last, left_length, wrote_none}
use Rattle.vault.proofs.contents.put_rest.Goals as goal

pub loop-b-preserved : goal.loop-b-preserved
loop-b-preserved c =
    let inner = c.args.inner.now in
    let handed = byte_left inner c.loop-b.c c.next_byte.ensures.result_value c.in-Some.is in
    left_on (c.in-Some.b ∷ []) (rest inner c.in-Some.on) (left_as handed c.loop-b.invariant) c.put_byte-p.ensures

pub returns : goal.returns
unfolding conts
returns c =
    let none = none_left c.args.inner.now c.loop-b.c c.next_byte.ensures.result_value c.in_default.is in
    let long = left_length c.loop-b.invariant in
    rw c.cursor_at-c.ensures at (left_last [] (left_as none c.loop-b.invariant) (wrote_none c.loop-b.p (omega arith)))
