-- `pieces::values::scalar_begins` meets its contract: a letter is put in and all computes; else the tests that the definition asks before are known to fail. Assumes nothing.
use borrow.Author.Rules.{rules}
use Rattle.laws.proofs.Picks.{picks}
use Rattle.text.specs.Tokens.{kind_by}
use Rattle.wire.specs.Held.{literal_at, figure_at, spot_at, told_at, state_at}
use Rattle.wire.specs.Machine.{spot_of, begins}
use Rattle.wire.specs.Figures.{figure_of}
use Rattle.pieces.proofs.values.scalar_begins.Goals as goal

pub overflow_cast-t-4 : goal.overflow_cast-t-4
overflow_cast-t-4 c = search rules

pub overflow_add-begun : goal.overflow_add-begun
overflow_add-begun c = search rules

pub begun-requires : goal.begun-requires
begun-requires c = search rules

pub returns-then-b : goal.returns-then-b
unfolding begins kind_by spot_of spot_at literal_at
returns-then-b c = rw (c.begun.ensures, c.if-b.true)

pub overflow_cast-t-4-2 : goal.overflow_cast-t-4-2
overflow_cast-t-4-2 c = search rules

pub overflow_add-begun-then-b-2 : goal.overflow_add-begun-then-b-2
overflow_add-begun-then-b-2 c = search rules

pub begun-requires-then-b-2 : goal.begun-requires-then-b-2
begun-requires-then-b-2 c = search rules

pub returns-then-b-2 : goal.returns-then-b-2
unfolding begins kind_by spot_of spot_at literal_at
returns-then-b-2 c = rw (c.begun-then-b-2.ensures, c.if-b-2.true)

pub overflow_cast-t-4-3 : goal.overflow_cast-t-4-3
overflow_cast-t-4-3 c = search rules

pub begun-requires-then-b-3 : goal.begun-requires-then-b-3
begun-requires-then-b-3 c = search rules

pub returns-then-b-3 : goal.returns-then-b-3
unfolding begins kind_by spot_of spot_at literal_at
returns-then-b-3 c = rw (c.begun-then-b-3.ensures, c.if-b-3.true)

pub overflow_cast-t-4-4 : goal.overflow_cast-t-4-4
overflow_cast-t-4-4 c = search rules

pub told-requires : goal.told-requires
told-requires c = search rules

pub returns-then-b-4 : goal.returns-then-b-4
unfolding begins kind_by state_at told_at
returns-then-b-4 c = rw c.told.ensures (search picks)

pub overflow_cast-t-4-5 : goal.overflow_cast-t-4-5
overflow_cast-t-4-5 c = search rules

pub overflow_add-begun-then-b-5 : goal.overflow_add-begun-then-b-5
overflow_add-begun-then-b-5 c = search rules

pub begun-requires-then-b-5 : goal.begun-requires-then-b-5
begun-requires-then-b-5 c = search rules

pub returns-then-b-5 : goal.returns-then-b-5
unfolding begins kind_by spot_of spot_at figure_at figure_of
returns-then-b-5 c = rw c.begun-then-b-5.ensures (search picks)

pub told-requires-2 : goal.told-requires-2
told-requires-2 c = search rules

pub returns : goal.returns
unfolding begins kind_by state_at told_at
returns c = rw c.told-2.ensures (search picks)
