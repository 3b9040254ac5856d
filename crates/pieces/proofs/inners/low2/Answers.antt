-- `pieces::inners::low2` meets its contract: the digit is C to F or it isn't. Assumes nothing.
use Rattle.laws.proofs.Picks.{picks}
use Rattle.wire.specs.Inners.{move_of}
use borrow.Author.Rules.{rules}
use Rattle.pieces.proofs.inners.low2.Goals as goal

pub digit-d-requires : goal.digit-d-requires
digit-d-requires c = search rules

pub returns-then-d-lt12 : goal.returns-then-d-lt12
unfolding move_of
returns-then-d-lt12 c = rw (← c.digit-d.ensures) (search picks)

pub returns-then-d-eq16 : goal.returns-then-d-eq16
unfolding move_of
returns-then-d-eq16 c = rw (← c.digit-d.ensures) (search picks)

pub returns : goal.returns
unfolding move_of
returns c = rw (← c.digit-d.ensures) (search picks)
