-- `pieces::inners::check` meets its contract: a string may hold what is a character. Assumes nothing.
use mathlib.Core.Path.{sym, ◌∙◌}
use Rattle.wire.specs.Inners.{checked}
use Rattle.pieces.proofs.Ways.{sound_is}
use Rattle.pieces.proofs.inners.check.Goals as goal

pub returns-then-is_character : goal.returns-then-is_character
unfolding checked
returns-then-is_character c = let a = c.args in rw (sound_is a.code, sym c.is_character.ensures ∙ c.if-is_character.true)

pub returns-else-is_character : goal.returns-else-is_character
unfolding checked
returns-else-is_character c = let a = c.args in rw (sound_is a.code, sym c.is_character.ensures ∙ c.if-is_character.false)
