-- `pieces::reader::take` meets its contract: an answer stays; a piece within the limit is fed (`piece_room`), and of a longer one what is within it, to be cut
-- off there (`piece_long`). Assumes nothing.
use mathlib.Core.Path.{◌≡◌, sym, ap, ◌∙◌}
use Prim.Native.Nat.{◌-◌, ◌≤◌}
use native.Mathlib.Omega.{arith}
use lib.ListN.{length, take}
use Rattle.text.specs.Limits.{base}
use Rattle.wire.specs.Machine.{piece}
use Rattle.wire.specs.Held.{state_of, held_of}
use Rattle.wire.proofs.Answers.{piece_stays}
use Rattle.pieces.proofs.Steps.{at_over}
use Rattle.pieces.proofs.Feeding.{taken_long, taken_short, taken_length}
use Rattle.pieces.proofs.reader.take.Goals as goal

pub returns-then-held-ge-OVER : goal.returns-then-held-ge-OVER
returns-then-held-ge-OVER c =
    let a = c.args in
    let h = a.held in
    let o = at_over h.place h c.if-held-ge-OVER.true in
    c.tidy.ensures ∙ ap held_of (o ∙ sym (rw o (piece_stays base _ a.piece.now)))

pub returns-then-size-piece : goal.returns-then-size-piece
returns-then-size-piece c =
    let a = c.args in
    c.beyond.ensures
    ∙ ap held_of (taken_long a.held a.piece.now c.within-size.result c.within-size.ensures (state_of c.feed_all-got.result) c.if-size-piece.true c.feed_all-got.ensures)

pub returns : goal.returns
returns c =
    let a = c.args in
    c.tidy-2.ensures
    ∙ ap held_of (taken_short a.held a.piece.now c.within-size.result c.within-size.ensures (state_of c.feed_all-got.result) c.if-size-piece.false c.feed_all-got.ensures)

-- as many bytes stand in the piece, and the limit leaves room for them
fits : (c : goal.After-within-size) → let a = c.args in
    (c.within-size.result ≡ length (take c.within-size.result a.piece.now)) × (length (take c.within-size.result a.piece.now) ≤ 1048576 - a.held.place)
fits c =
    let a = c.args in
    taken_length a.held a.piece.now c.within-size.result c.within-size.ensures

pub feed_all-got-requires : goal.feed_all-got-requires
feed_all-got-requires c =
    record { text_len_bound = (fits c).1; going = omega arith }

pub slice_bounds-feed_all-end : goal.slice_bounds-feed_all-end
slice_bounds-feed_all-end c = (fits c).0
