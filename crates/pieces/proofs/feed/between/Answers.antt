-- `pieces::feed::between` meets its contract: white space changes nothing, another byte does what is done there. Assumes nothing.
use mathlib.Core.Path.{sym, ◌∙◌}
use Rattle.pieces.proofs.Steps.{between_space, between_act}
use Rattle.pieces.proofs.feed.between.Goals as goal

pub returns-then-is_space : goal.returns-then-is_space
returns-then-is_space c = between_space _ _ _ c.requires (sym c.is_space.ensures ∙ c.if-is_space.true)

pub returns : goal.returns
returns c =
    between_act _ _ _ c.act.result c.requires (sym c.is_space.ensures ∙ c.if-is_space.false) c.act.ensures
