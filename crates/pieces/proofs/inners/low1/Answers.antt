-- `pieces::inners::low1` meets its contract: the digit is D or it isn't. Assumes nothing.
use Rattle.laws.proofs.Picks.{picks}
use Rattle.wire.specs.Inners.{move_of}
use borrow.Author.Rules.{rules}
use Rattle.pieces.proofs.inners.low1.Goals as goal

pub digit-d-requires : goal.digit-d-requires
digit-d-requires c = search rules

pub returns-then-d-eq13 : goal.returns-then-d-eq13
unfolding move_of
returns-then-d-eq13 c = rw (← c.digit-d.ensures) (search picks)

pub returns : goal.returns
unfolding move_of
returns c = rw (← c.digit-d.ensures) (search picks)
