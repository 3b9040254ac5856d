-- `pieces::values::quotes` meets its contract: the byte is a quote or it is not. Assumes nothing.
use borrow.Author.Rules.{rules}
use Rattle.laws.proofs.Picks.{picks}
use Rattle.wire.specs.Held.{inner_at, spot_at, told_at, state_at}
use Rattle.wire.specs.Machine.{quotes}
use Rattle.pieces.proofs.values.quotes.Goals as goal

pub overflow_cast-t-4 : goal.overflow_cast-t-4
overflow_cast-t-4 c = search rules

pub moved-requires : goal.moved-requires
moved-requires c = search rules

pub returns-then-b : goal.returns-then-b
unfolding quotes inner_at state_at spot_at
returns-then-b c = rw c.moved.ensures (search picks)

pub told-requires : goal.told-requires
told-requires c = search rules

pub returns : goal.returns
unfolding quotes state_at told_at
returns c = rw c.told.ensures (search picks)
