-- `fields::repeated::repeat_among` meets its contract: few names are compared each with each, names that ascend repeat none, and of others, sorted, a place
-- has the name of its left neighbour exactly if one has that of an earlier one (`by_arranged`). Assumes nothing.
use mathlib.Core.Path.{sym, ap, ◌∙◌}
use Rattle.laws.specs.Earliest.{least_beside}
use Rattle.laws.proofs.Searching.{ascending_none}
use Rattle.fields.specs.Survey.{name_at, is_found}
use Rattle.fields.proofs.Beside.{by_arranged, found_some}
use Rattle.fields.proofs.repeated.repeat_among.Goals as goal

pub returns-then-ascend : goal.returns-then-ascend
returns-then-ascend c = sym (ap is_found (ascending_none (name_at c.args.packed.now) c.requires.climbs (sym c.ascend.ensures ∙ c.if-ascend.true)))

pub returns : goal.returns
returns c =
    let label = name_at c.args.packed.now in
    let s = c.sort_places in
    c.has_beside.ensures
    ∙ found_some (least_beside label s.new.places)
    ∙ by_arranged label c.args.places.now s.new.places c.requires.climbs (s.ensures.arranged c.requires.fits)
