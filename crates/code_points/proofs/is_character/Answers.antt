-- `code_points::is_character` meets its contract: at each `return` the tests so far pick the case of the definition. Assumes nothing.
use Rattle.code_points.specs.Characters.{is_character}
use Rattle.laws.proofs.Picks.{picks}
use Rattle.code_points.proofs.is_character.Goals as goal

pub returns-then-code-lt55296 : goal.returns-then-code-lt55296
unfolding is_character
returns-then-code-lt55296 c = search picks

pub returns-then-code-lt57344 : goal.returns-then-code-lt57344
unfolding is_character
returns-then-code-lt57344 c = search picks

pub returns-then-code-lt64976 : goal.returns-then-code-lt64976
unfolding is_character
returns-then-code-lt64976 c = search picks

pub returns-then-code-lt65008 : goal.returns-then-code-lt65008
unfolding is_character
returns-then-code-lt65008 c = search picks

pub returns-then-code-gt1114111 : goal.returns-then-code-gt1114111
unfolding is_character
returns-then-code-gt1114111 c = search picks

pub returns : goal.returns
unfolding is_character
returns c = search picks
