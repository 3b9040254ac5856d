-- `card::rules::tally_in` meets its contract: the list is found by its row, or there is none. Assumes nothing.
use native.Mathlib.Omega.{arith}
use mathlib.Core.Path.{◌≡◌}
use Rattle.text.specs.Doc.{Doc, members_of}
use mathlib.Core.Option.{Option}
use Rattle.text.specs.Firsts.{inside_at}
use Rattle.contact.specs.Rules.{present, marks}
use Rattle.card.specs.Marks.{no_marks, tally}
use Rattle.card.proofs.Judging.Values.{value_members, value_below, value_room, by_found, by_nothing, itself}
use Rattle.card.proofs.rules.tally_in.Goals as goal

pub returns-in_default : goal.returns-in_default
unfolding tally
returns-in_default c =
    λ f s.
    let a = c.args in
    let text = a.on.now.text.now in
    by_nothing itself text a.on.now.table.now (present a.object.of a.name.now (members_of text f)) (c.present.ensures f s)
    (λ (x : Option Doc). c.no_marks.result ≡ tally no_marks (marks x)) c.in_default.is c.no_marks.ensures

-- the list is one of the table
pub returns : goal.returns
returns c =
    λ f s.
    let a = c.args in
    let text = a.on.now.text.now in
    by_found itself text a.on.now.table.now (present a.object.of a.name.now (members_of text f)) (c.present.ensures f s)
    (λ (x : Option Doc). c.tally_of.result ≡ tally no_marks (marks x)) c.in-Some.is
    (λ d g v e. rw (e, value_below text g) (c.tally_of.ensures (inside_at g) (value_members text g v c.next_row-after.ensures (omega (arith, value_room text g v)))))
