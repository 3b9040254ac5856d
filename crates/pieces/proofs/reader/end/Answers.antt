-- `pieces::reader::end` meets its contract: an answer stays, and else the end is fed. Assumes nothing.
use mathlib.Core.Path.{refl, sym, ap, ◌∙◌}
use native.Mathlib.Omega.{arith}
use Rattle.text.specs.Limits.{base}
use Rattle.wire.specs.Machine.{feed, feeds, finish}
use Rattle.wire.specs.Held.{held_of}
use Rattle.pieces.proofs.Steps.{at_over}
use Rattle.pieces.proofs.reader.end.Goals as goal

pub returns-then-held-ge-OVER : goal.returns-then-held-ge-OVER
unfolding feed
returns-then-held-ge-OVER c =
    let h = c.args.held in
    let o = at_over h.place h c.if-held-ge-OVER.true in
    c.tidy.ensures ∙ ap held_of (o ∙ sym (ap (finish base) o))

pub returns : goal.returns
unfolding feeds
returns c = c.tidy-2.ensures ∙ ap held_of c.feed_all.ensures

pub feed_all-requires : goal.feed_all-requires
feed_all-requires c = record { text_len_bound = omega arith; going = omega arith }

pub slice_bounds-feed_all-end : goal.slice_bounds-feed_all-end
slice_bounds-feed_all-end c = refl
