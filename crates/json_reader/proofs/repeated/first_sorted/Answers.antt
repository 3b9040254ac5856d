-- `json_reader::repeated::first_sorted` meets its contract: names that ascend repeat none, and else the least neighbour among the sorted places is it (`by_common`).
-- Assumes nothing.
use mathlib.Core.Path.{sym, ap, ◌∙◌}
use Rattle.laws.specs.Earliest.{place_of}
use Rattle.json_reader.proofs.Begun.{all_common, all_ascend}
use Rattle.json_reader.proofs.repeated.first_sorted.Goals as goal

pub returns-then-ascend : goal.returns-then-ascend
returns-then-ascend c =
    let a = c.args in
    ap place_of (sym (all_ascend a.text.now a.places.now c.common.result c.requires.0 c.common.ensures (sym c.ascend.ensures ∙ c.if-ascend.true)))

pub returns : goal.returns
returns c =
    let a = c.args in
    let r = c.sort_names in
    c.least_beside.ensures ∙ ap place_of (all_common a.text.now a.places.now c.common.result c.requires.0 c.common.ensures r.new.places r.ensures)
