-- `pieces::values::colon` meets its contract: the byte is a colon or it is not. Assumes nothing.
use borrow.Author.Rules.{rules}
use Rattle.laws.proofs.Picks.{picks}
use Rattle.wire.specs.Held.{spot_at, told_at, state_at}
use Rattle.pieces.specs.Turns.{act_at}
use Rattle.pieces.proofs.values.colon.Goals as goal

pub overflow_cast-t-4 : goal.overflow_cast-t-4
overflow_cast-t-4 c = search rules

pub moved-requires : goal.moved-requires
moved-requires c = search rules

pub returns-then-b : goal.returns-then-b
unfolding act_at state_at spot_at
returns-then-b c = rw c.moved.ensures (search picks)

pub told-requires : goal.told-requires
told-requires c = search rules

pub returns : goal.returns
unfolding act_at state_at told_at
returns c = rw c.told.ensures (search picks)
