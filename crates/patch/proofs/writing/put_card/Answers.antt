-- `patch::writing::put_card` meets its contract: no entry has met a member, and each begins with its key. Assumes nothing.
use mathlib.Core.Path.{◌≡◌, sym, ap, ◌∙◌}
use mathlib.Core.Bool.{true}
use mathlib.Core.List.{◌++◌}
use lib.ListN.{drop, replicate}
use lib.Seq.{length-take-le}
use Rattle.patch.proofs.Listing.Marks.{cleared_word, cleared_long, cleared_same, waiting_start}
use Rattle.patch.proofs.Putting.Cards.{stripped_all}
use Rattle.patch.proofs.writing.put_card.Goals as goal

-- the cleared words are the first n
zeros : (c : goal.After-put_value-arg-3-1) → let a = c.args in c.fill.new.self ≡ replicate a.n 0
zeros c =
    c.fill.ensures.after (λ y e. e) ∙ ap (λ k. replicate k 0) (length-take-le c.args.n c.args.cues.now c.requires.0.1)

pub put_value-requires : goal.put_value-requires
put_value-requires c =
    let a = c.args in
    let p = c.requires in
    ((p.0.0, rw (zeros c) (cleared_long a.n (drop a.n a.cues.now))), p.1)

-- the cleared words are the first n
zeros_2 : (c : goal.After-slice_known-7-1) → let a = c.args in c.fill.new.self ≡ replicate a.n 0
zeros_2 c =
    c.fill.ensures.after (λ y e. e) ∙ ap (λ k. replicate k 0) (length-take-le c.args.n c.args.cues.now c.requires.0.1)

pub returns : goal.returns
returns c =
    λ g ms b s alike.
    let a = c.args in
    let w = c.put_value.ensures.is true g ms 0 b s alike
    (waiting_start a.ptext.now a.ptable.now a.rows.now (c.fill.new.self ++ drop a.n a.cues.now) a.n
    (λ i h. rw (zeros_2 c) (cleared_word a.n i (drop a.n a.cues.now) h))) in
    (rw (← stripped_all ms) w.0, w.1)

pub slice_bounds-fill-end : goal.slice_bounds-fill-end
slice_bounds-fill-end c = c.requires.0.1

pub slice_bounds-fill-end-2 : goal.slice_bounds-fill-end-2
slice_bounds-fill-end-2 c = sym (length-take-le c.args.n c.args.cues.now c.requires.0.1)

pub fill-requires : goal.fill-requires
fill-requires c = tt

pub shape_of-cues : goal.shape_of-cues
shape_of-cues c = let a = c.args in
    c.put_value.auto.cues ∙ rw (zeros_2 c) (cleared_same a.n a.cues.now c.requires.0.1)

pub shape_of-walks : goal.shape_of-walks
shape_of-walks c = c.put_value.auto.walks

pub shape_of-out : goal.shape_of-out
shape_of-out c = c.put_value.auto.out
