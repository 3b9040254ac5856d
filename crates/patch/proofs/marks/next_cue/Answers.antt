-- `patch::marks::next_cue` meets its contract. Assumes nothing.
use Rattle.patch.proofs.Listing.Marks.{next_goes, next_ends}
use Rattle.patch.proofs.marks.next_cue.Goals as goal

pub returns-in-None : goal.returns-in-None
returns-in-None c =
    let a = c.args in
    next_ends a.key.now a.at (rw c.in-None.is at c.after_part.ensures.goes_at)

pub returns-in-Some : goal.returns-in-Some
returns-in-Some c =
    let a = c.args in
    next_goes a.key.now a.at (rw c.in-Some.is at c.after_part.ensures.goes_at) c.place_word.ensures

pub after_part-requires : goal.after_part-requires
after_part-requires c = tt

pub place_word-requires : goal.place_word-requires
place_word-requires c = tt
