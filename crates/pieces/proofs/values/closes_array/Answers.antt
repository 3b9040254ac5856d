-- `pieces::values::closes_array` meets its contract: `closes_array` says what the definition asks where the innermost bracket is an array. Assumes nothing.
use borrow.Author.Rules.{rules}
use Rattle.laws.proofs.Picks.{picks}
use Rattle.wire.specs.Held.{spot_at, told_at, state_at}
use Rattle.pieces.proofs.Acts.{closes_array}
use Rattle.pieces.proofs.values.closes_array.Goals as goal

pub overflow_cast-t-4 : goal.overflow_cast-t-4
overflow_cast-t-4 c = search rules

pub moved-requires : goal.moved-requires
moved-requires c = search rules

pub returns-then-b : goal.returns-then-b
unfolding state_at spot_at
returns-then-b c = rw (c.moved.ensures, closes_array _ _ _ _ _ c.requires.fact c.requires.array, c.if-b.true)

pub overflow_cast-t-4-2 : goal.overflow_cast-t-4-2
overflow_cast-t-4-2 c = search rules

pub shut-requires : goal.shut-requires
shut-requires c = search rules

pub returns-then-b-2 : goal.returns-then-b-2
unfolding state_at spot_at
returns-then-b-2 c = rw (c.shut.ensures, closes_array _ _ _ _ _ c.requires.fact c.requires.array) (search picks)

pub told-requires : goal.told-requires
told-requires c = search rules

pub returns : goal.returns
unfolding state_at told_at
returns c = rw (c.told.ensures, closes_array _ _ _ _ _ c.requires.fact c.requires.array) (search picks)
