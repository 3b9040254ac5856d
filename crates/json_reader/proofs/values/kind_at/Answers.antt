-- `json_reader::values::kind_at` meets its contract. Assumes nothing.
use mathlib.Core.Path.{ap, ◌∙◌}
use Rattle.text.specs.Tokens.{kind_by}
use Rattle.json_reader.proofs.values.kind_at.Goals as goal

pub returns : goal.returns
returns c = c.kind_of.ensures ∙ ap kind_by c.peek.ensures.value
