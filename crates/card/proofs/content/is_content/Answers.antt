-- `card::content::is_content` meets its contract. Assumes nothing.
use mathlib.Core.Path.{◌∙◌}
use Rattle.card.proofs.content.is_content.Goals as goal

pub returns : goal.returns
returns c = c.slice_is.ensures ∙ rw c.content.ensures
