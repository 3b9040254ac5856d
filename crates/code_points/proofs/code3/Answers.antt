-- `code_points::code3` meets its contract: at each `return` the tests so far pick the case of `seq3`. Assumes nothing.
use Rattle.text.specs.Chars.{seq3}
use Rattle.laws.proofs.Picks.{picks}
use Rattle.code_points.proofs.code3.Goals as goal

pub returns-then-x-gt63 : goal.returns-then-x-gt63
unfolding seq3
returns-then-x-gt63 c = search picks

pub returns-then-y-gt63 : goal.returns-then-y-gt63
unfolding seq3
returns-then-y-gt63 c = search picks

pub returns-then-code-lt2048 : goal.returns-then-code-lt2048
unfolding seq3
returns-then-code-lt2048 c = search picks

pub returns-else-code-lt2048 : goal.returns-else-code-lt2048
unfolding seq3
returns-else-code-lt2048 c = search picks
