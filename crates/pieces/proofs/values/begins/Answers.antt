-- `pieces::values::begins` meets its contract: where the first byte is known, all that the definition asks of it computes. Assumes nothing.
use borrow.Author.Rules.{rules}
use Rattle.text.specs.Tokens.{kind_by}
use Rattle.wire.specs.Held.{figure_at, inner_at, spot_at}
use Rattle.wire.specs.Machine.{spot_of, begins}
use Rattle.wire.specs.Figures.{figure_of}
use Rattle.pieces.proofs.values.begins.Goals as goal

pub overflow_cast-t-4 : goal.overflow_cast-t-4
overflow_cast-t-4 c = search rules

pub begun-requires : goal.begun-requires
begun-requires c = search rules

pub returns-then-b : goal.returns-then-b
unfolding begins kind_by spot_of spot_at inner_at
returns-then-b c = rw (c.begun.ensures, c.if-b.true)

pub overflow_cast-t-4-2 : goal.overflow_cast-t-4-2
overflow_cast-t-4-2 c = search rules

pub opens-requires : goal.opens-requires
opens-requires c = search rules

pub returns-then-b-2 : goal.returns-then-b-2
unfolding begins kind_by
returns-then-b-2 c = rw (c.opens.ensures, c.if-b-2.true)

pub overflow_cast-t-4-3 : goal.overflow_cast-t-4-3
overflow_cast-t-4-3 c = search rules

pub opens-requires-then-b-3 : goal.opens-requires-then-b-3
opens-requires-then-b-3 c = search rules

pub returns-then-b-3 : goal.returns-then-b-3
unfolding begins kind_by
returns-then-b-3 c = rw (c.opens-then-b-3.ensures, c.if-b-3.true)

pub overflow_cast-t-4-4 : goal.overflow_cast-t-4-4
overflow_cast-t-4-4 c = search rules

pub begun-requires-then-b-4 : goal.begun-requires-then-b-4
begun-requires-then-b-4 c = search rules

pub returns-then-b-4 : goal.returns-then-b-4
unfolding begins kind_by spot_of spot_at figure_at figure_of
returns-then-b-4 c = rw (c.begun-then-b-4.ensures, c.if-b-4.true)

pub overflow_cast-t-4-5 : goal.overflow_cast-t-4-5
overflow_cast-t-4-5 c = search rules

pub overflow_add-begun : goal.overflow_add-begun
overflow_add-begun c = search rules

pub begun-requires-then-b-5 : goal.begun-requires-then-b-5
begun-requires-then-b-5 c = search rules

pub returns-then-b-5 : goal.returns-then-b-5
unfolding begins kind_by spot_of spot_at figure_at figure_of
returns-then-b-5 c = rw (c.begun-then-b-5.ensures, c.if-b-5.true)

pub scalar_begins-requires : goal.scalar_begins-requires
scalar_begins-requires c = search rules

pub returns : goal.returns
returns c = search rules
