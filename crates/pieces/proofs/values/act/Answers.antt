-- `pieces::values::act` meets its contract: what must come is asked first (`wanted`), and each callee does what `act_at` says of its number. Assumes nothing.
use borrow.Author.Rules.{rules}
use Rattle.laws.proofs.Picks.{picks}
use Rattle.wire.specs.Held.{told_at, state_at}
use Rattle.pieces.specs.Turns.{act_at}
use Rattle.pieces.proofs.values.act.Goals as goal

pub wanted-want-requires : goal.wanted-want-requires
wanted-want-requires c = search rules

pub closes-requires : goal.closes-requires
closes-requires c = search rules

pub returns-then-want-eq-AFTER : goal.returns-then-want-eq-AFTER
unfolding act_at
returns-then-want-eq-AFTER c = rw (c.closes.ensures, ← c.wanted-want.ensures _, c.if-want-eq-AFTER.true)

pub begins-requires : goal.begins-requires
begins-requires c = search rules

pub returns-then-want-eq-VALUE : goal.returns-then-want-eq-VALUE
unfolding act_at
returns-then-want-eq-VALUE c = rw (c.begins.ensures, ← c.wanted-want.ensures _, c.if-want-eq-VALUE.true)

pub colon-requires : goal.colon-requires
colon-requires c = search rules

pub returns-then-want-eq-COLON : goal.returns-then-want-eq-COLON
unfolding act_at
returns-then-want-eq-COLON c = rw (c.colon.ensures, ← c.wanted-want.ensures _, c.if-want-eq-COLON.true)

pub quotes-requires : goal.quotes-requires
quotes-requires c = search rules

pub returns-then-want-eq-NAME : goal.returns-then-want-eq-NAME
unfolding act_at
returns-then-want-eq-NAME c = rw (c.quotes.ensures, ← c.wanted-want.ensures _, c.if-want-eq-NAME.true)

pub told-requires : goal.told-requires
told-requires c = search rules

pub returns : goal.returns
unfolding act_at state_at told_at
returns c = rw (c.told.ensures, ← c.wanted-want.ensures _) (search picks)
