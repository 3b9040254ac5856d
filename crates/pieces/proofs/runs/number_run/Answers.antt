-- `pieces::runs::number_run` meets its contract: each turn goes on over digits and then over one byte of the number. The measure is what is left of the
-- text. Assumes nothing.
use Prim.Native.Nat.{◌+◌, ◌-◌, ◌≤◌, ◌<◌}
use native.Mathlib.Omega.{arith}
use lib.ListN.{length}
use Rattle.laws.proofs.Places.{inside}
use Rattle.pieces.specs.Passing.{Leads}
use Rattle.pieces.proofs.Stretches.{lead_none, lead_on, lead_turn, turn_inside}
use Rattle.pieces.proofs.runs.number_run.Goals as goal

-- up to the byte that was looked at
upto : (c : goal.Else-next-ge-TEXTS)
    → let a = c.args in
    Leads a.start a.text.now a.from c.loop-start.spot c.digits_from-to.result
upto c = lead_on c.loop-start.invariant.0 c.digits_from-to.ensures

-- the byte that continues the number
on : (c : goal.Else-next-ge-TEXTS) → 14 ≤ c.turn-next.result → c.turn-next.result < 22
    → let a = c.args in
    (c.digits_from-to.result < length a.text.now) × Leads a.start a.text.now a.from c.turn-next.result (c.digits_from-to.result + 1)
on c low high =
    let t = c.args.text.now in
    let e = rw c.peek.ensures.value at c.turn-next.ensures in
    let i = turn_inside c.turn-next.result (c.loop-start.spot - 14) t c.digits_from-to.result c.digits_from-to.ensures.inside low high e in
    (i, lead_on (upto c) (lead_turn c.loop-start.spot c.turn-next.result t c.digits_from-to.result i c.loop-start.invariant.1 c.loop-start.invariant.2 low high e))

pub overflow_add-at : goal.overflow_add-at
overflow_add-at c =
    omega (arith, (on c (omega arith) (omega arith)).0)

pub loop-start-smaller : goal.loop-start-smaller
loop-start-smaller c =
    omega (arith, (on c (omega arith) (omega arith)).0, c.digits_from-to.ensures.later)

pub loop-start-preserved : goal.loop-start-preserved
loop-start-preserved c =
    ((on c (omega arith) (omega arith)).1, omega arith, omega arith)

pub loop-start-init : goal.loop-start-init
loop-start-init c =
    (lead_none c.args.start c.args.text.now c.args.from c.requires.from_in_bounds (omega (arith, c.requires.going)), c.requires.number, c.requires.going)

pub digits_from-to-requires : goal.digits_from-to-requires
digits_from-to-requires c = record { from_in_bounds = c.loop-start.invariant.0.inside; number = c.loop-start.invariant.1; going = c.loop-start.invariant.2 }

pub overflow_sub-spot : goal.overflow_sub-spot
overflow_sub-spot c = omega (arith, c.loop-start.invariant.1)

-- up to the byte that was looked at
upto_2 : (c : goal.Then-next-lt-NUMBERS)
    → let a = c.args in
    Leads a.start a.text.now a.from c.loop-start.spot c.digits_from-to.result
upto_2 c = lead_on c.loop-start.invariant.0 c.digits_from-to.ensures

pub returns-then-next-lt-NUMBERS : goal.returns-then-next-lt-NUMBERS
returns-then-next-lt-NUMBERS c = upto_2 c

-- up to the byte that was looked at
upto_3 : (c : goal.Then-next-ge-TEXTS)
    → let a = c.args in
    Leads a.start a.text.now a.from c.loop-start.spot c.digits_from-to.result
upto_3 c = lead_on c.loop-start.invariant.0 c.digits_from-to.ensures

pub returns-then-next-ge-TEXTS : goal.returns-then-next-ge-TEXTS
returns-then-next-ge-TEXTS c = upto_3 c
