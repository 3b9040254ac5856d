-- `pieces::inners::after3` meets its contract: the tests are those of `move3`. Assumes nothing.
use Rattle.laws.proofs.Picks.{picks}
use Rattle.wire.specs.Inners.{move3}
use Rattle.pieces.proofs.inners.after3.Goals as goal

pub returns-then-c-lt32 : goal.returns-then-c-lt32
unfolding move3
returns-then-c-lt32 c = search picks

pub returns-then-c-lt864 : goal.returns-then-c-lt864
unfolding move3
returns-then-c-lt864 c = search picks

pub returns-then-c-lt896 : goal.returns-then-c-lt896
unfolding move3
returns-then-c-lt896 c = search picks

pub returns : goal.returns
unfolding move3
returns c = search picks
