-- `code_points::tail` meets its contract: in each arm the range that holds picks the case of `tail_of`. Assumes nothing.
use Rattle.text.specs.Chars.{tail_of}
use Rattle.laws.proofs.Picks.{picks}
use Rattle.code_points.proofs.tail.Goals as goal

pub returns-in-128-to-191 : goal.returns-in-128-to-191
unfolding tail_of
returns-in-128-to-191 c = search picks

pub returns-in_default : goal.returns-in_default
unfolding tail_of
returns-in_default c = search picks

pub returns-in_default-2 : goal.returns-in_default-2
unfolding tail_of
returns-in_default-2 c = search picks
