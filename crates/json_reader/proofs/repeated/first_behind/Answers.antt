-- `json_reader::repeated::first_behind` meets its contract: behind what all names begin with the same name repeats one first (`all_same`). Assumes nothing.
use mathlib.Core.Path.{ap, ◌∙◌}
use Rattle.laws.specs.Earliest.{place_of}
use Rattle.json_reader.proofs.Begun.{all_same}
use Rattle.json_reader.proofs.repeated.first_behind.Goals as goal

pub returns : goal.returns
returns c =
    let a = c.args in
    c.first_direct.ensures ∙ ap place_of (all_same a.text.now a.places.now c.common.result c.requires c.common.ensures)
