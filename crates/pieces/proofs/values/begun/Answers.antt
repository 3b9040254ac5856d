-- `pieces::values::begun` meets its contract: the limit on values decides, as `counted` does. Assumes nothing.
use borrow.Author.Rules.{rules}
use Rattle.laws.proofs.Picks.{picks}
use Rattle.wire.specs.Held.{told_at, state_at}
use Rattle.wire.specs.Machine.{counted}
use Rattle.pieces.proofs.values.begun.Goals as goal

pub overflow_cast-t-4 : goal.overflow_cast-t-4
overflow_cast-t-4 c = search rules

pub told-requires : goal.told-requires
told-requires c = search rules

pub returns-then-h : goal.returns-then-h
unfolding counted state_at told_at
returns-then-h c = rw c.told.ensures (search picks)

pub overflow_add-result : goal.overflow_add-result
overflow_add-result c = search rules

pub returns : goal.returns
unfolding counted state_at
returns c = search picks
