-- `code_points::code2` meets its contract: at each `return` the tests so far pick the case of `seq2`. Assumes nothing.
use Rattle.text.specs.Chars.{seq2}
use Rattle.laws.proofs.Picks.{picks}
use Rattle.code_points.proofs.code2.Goals as goal

pub returns-then-x-gt63 : goal.returns-then-x-gt63
unfolding seq2
returns-then-x-gt63 c = search picks

pub returns-then-code-lt128 : goal.returns-then-code-lt128
unfolding seq2
returns-then-code-lt128 c = search picks

pub returns-else-code-lt128 : goal.returns-else-code-lt128
unfolding seq2
returns-else-code-lt128 c = search picks
