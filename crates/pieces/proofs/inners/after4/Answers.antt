-- `pieces::inners::after4` meets its contract: the tests are those of `move4`. Assumes nothing.
use Rattle.laws.proofs.Picks.{picks}
use Rattle.wire.specs.Inners.{move4}
use Rattle.pieces.proofs.inners.after4.Goals as goal

pub returns-then-c-lt16 : goal.returns-then-c-lt16
unfolding move4
returns-then-c-lt16 c = search picks

pub returns-then-c-lt272 : goal.returns-then-c-lt272
unfolding move4
returns-then-c-lt272 c = search picks

pub returns : goal.returns
unfolding move4
returns c = search picks
