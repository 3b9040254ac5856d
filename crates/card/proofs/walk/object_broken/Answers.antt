-- `card::walk::object_broken` meets its contract. Assumes nothing.
use Rattle.card.specs.Walk.{object_number}
use Rattle.card.proofs.walk.object_broken.Goals as goal

pub returns-then-is_lacking : goal.returns-then-is_lacking
unfolding object_number
returns-then-is_lacking c = λ f h. rw (← c.is_lacking.ensures f h, c.if-is_lacking.true)

pub returns-then-not-key : goal.returns-then-not-key
unfolding object_number
returns-then-not-key c =
    λ f h.
    let a = c.args in
    rw (← c.is_lacking.ensures f h, c.if-is_lacking.false, c.if-not-key.true)

pub returns-then-breaks : goal.returns-then-breaks
unfolding object_number
returns-then-breaks c =
    λ f h.
    let a = c.args in
    let is-lacking = c.is_lacking in
    let if1 = c.if-is_lacking in
    rw (← is-lacking.ensures f h, if1.false, c.if-not-key.false, ← c.breaks.ensures f h, c.if-breaks.true)

pub returns : goal.returns
unfolding object_number
returns c =
    λ f h.
    let a = c.args in
    let is-lacking = c.is_lacking in
    let if1 = c.if-is_lacking in
    rw (← is-lacking.ensures f h, if1.false, c.if-not-key.false, ← c.breaks.ensures f h, c.if-breaks.false)
