-- `pieces::values::wanted` meets its contract: the spot itself says it (`act_spot`), but right after a bracket that bracket does (`firsts-..`). Assumes nothing.
use native.Mathlib.Omega.{arith}
use borrow.Author.Rules.{rules}
use Rattle.wire.specs.Held.{spot_at}
use Rattle.pieces.specs.Turns.{act_at, act_of}
use Rattle.pieces.proofs.Acts.{act_spot, firsts_none, firsts_array, firsts_object}
use Rattle.pieces.proofs.values.wanted.Goals as goal

pub returns-then-h-ne-FIRST : goal.returns-then-h-ne-FIRST
returns-then-h-ne-FIRST c = λ at. act_spot _ _ _ _ _ c.requires c.if-h-ne-FIRST.true

pub returns-then-h-eq0 : goal.returns-then-h-eq0
unfolding act_of spot_at act_at
returns-then-h-eq0 c = λ at. rw c.if-h-ne-FIRST.false (firsts_none _ _ _ _ _ c.if-h-eq0.true)

pub overflow_cast-item : goal.overflow_cast-item
overflow_cast-item c = search rules

pub item-requires : goal.item-requires
item-requires c = search rules

pub returns-then-h-eq0-2 : goal.returns-then-h-eq0-2
unfolding act_of spot_at
returns-then-h-eq0-2 c = λ at. rw (c.item.ensures, c.if-h-ne-FIRST.false) (firsts_array _ _ _ _ _ c.if-h-eq0.false c.if-h-eq0-2.true)

pub overflow_cast-item-2 : goal.overflow_cast-item-2
overflow_cast-item-2 c = search rules

pub item-requires-2 : goal.item-requires-2
item-requires-2 c = search rules

pub returns : goal.returns
unfolding act_of spot_at
returns c = λ at. rw (c.item-2.ensures, c.if-h-ne-FIRST.false) (firsts_object _ _ _ _ _ c.if-h-eq0.false (omega arith))
