-- `pieces::inners::unit` meets its contract: a high surrogate waits for its follower, another unit is a character. Assumes nothing.
use Rattle.laws.proofs.Picks.{picks}
use Rattle.wire.specs.Inners.{unit_move}
use borrow.Author.Rules.{rules}
use Rattle.pieces.proofs.inners.unit.Goals as goal

pub check-requires : goal.check-requires
check-requires c = search rules

pub returns-then-u-lt55296 : goal.returns-then-u-lt55296
unfolding unit_move
returns-then-u-lt55296 c = rw (← c.check.ensures) (search picks)

pub returns-then-u-lt56320 : goal.returns-then-u-lt56320
unfolding unit_move
returns-then-u-lt56320 c = search picks

pub check-requires-2 : goal.check-requires-2
check-requires-2 c = search rules

pub returns : goal.returns
unfolding unit_move
returns c = rw (← c.check-2.ensures) (search picks)
