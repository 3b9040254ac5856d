-- `pieces::inners::pair` meets its contract: the byte is a backslash or it isn't. Assumes nothing.
use Rattle.laws.proofs.Picks.{picks}
use Rattle.wire.specs.Inners.{move_of}
use Rattle.pieces.proofs.inners.pair.Goals as goal

pub returns-then-b-eq-BACKSLASH : goal.returns-then-b-eq-BACKSLASH
unfolding move_of
returns-then-b-eq-BACKSLASH c = search picks

pub returns : goal.returns
unfolding move_of
returns c = search picks
