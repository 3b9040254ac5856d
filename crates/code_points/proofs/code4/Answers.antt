-- `code_points::code4` meets its contract: at each `return` the tests so far pick the case of `seq4`. Assumes nothing.
use Rattle.text.specs.Chars.{seq4}
use Rattle.laws.proofs.Picks.{picks}
use Rattle.code_points.proofs.code4.Goals as goal

pub returns-then-x-gt63 : goal.returns-then-x-gt63
unfolding seq4
returns-then-x-gt63 c = search picks

pub returns-then-y-gt63 : goal.returns-then-y-gt63
unfolding seq4
returns-then-y-gt63 c = search picks

pub returns-then-z-gt63 : goal.returns-then-z-gt63
unfolding seq4
returns-then-z-gt63 c = search picks

pub returns-then-code-lt65536 : goal.returns-then-code-lt65536
unfolding seq4
returns-then-code-lt65536 c = search picks

pub returns-else-code-lt65536 : goal.returns-else-code-lt65536
unfolding seq4
returns-else-code-lt65536 c = search picks
