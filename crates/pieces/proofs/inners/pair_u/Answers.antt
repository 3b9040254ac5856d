-- `pieces::inners::pair_u` meets its contract: the byte is a u or it isn't. Assumes nothing.
use Rattle.laws.proofs.Picks.{picks}
use Rattle.wire.specs.Inners.{move_of}
use Rattle.pieces.proofs.inners.pair_u.Goals as goal

pub returns-then-b-eq-SMALL_U : goal.returns-then-b-eq-SMALL_U
unfolding move_of
returns-then-b-eq-SMALL_U c = search picks

pub returns : goal.returns
unfolding move_of
returns c = search picks
