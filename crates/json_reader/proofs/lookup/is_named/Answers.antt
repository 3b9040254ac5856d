-- `json_reader::lookup::is_named` meets its contract. Assumes nothing.
use mathlib.Core.Path.{◌∙◌}
use Rattle.json_reader.proofs.lookup.is_named.Goals as goal

pub returns : goal.returns
returns c = c.name_is.ensures ∙ rw (c.name_start.ensures, c.name_end.ensures)
