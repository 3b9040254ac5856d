-- `code_points::checked` meets its contract by what `checked_at` asks. Assumes nothing.
use mathlib.Core.Path.{sym, ◌∙◌}
use Rattle.code_points.proofs.Characters.{checked_is}
use Rattle.code_points.proofs.checked.Goals as goal

pub returns-then-is_character : goal.returns-then-is_character
returns-then-is_character c = let a = c.args in rw (← checked_is a.at a.code a.len, sym c.is_character.ensures ∙ c.if-is_character.true)

pub returns-else-is_character : goal.returns-else-is_character
returns-else-is_character c = let a = c.args in rw (← checked_is a.at a.code a.len, sym c.is_character.ensures ∙ c.if-is_character.false)
