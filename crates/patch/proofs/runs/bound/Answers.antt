-- `patch::runs::bound` meets its contract: the place is halved in, and where the entries ascend it parts them. Assumes nothing.
use native.Mathlib.Omega.{arith}
use Rattle.laws.proofs.Halving.{halved_start, halved_up, halved_down}
use Rattle.text.specs.Strings.{decode}
use Rattle.patch.proofs.Listing.Runs.{before_by_cue, bound_made}
use Rattle.patch.proofs.runs.bound.Goals as goal

pub loop-a-init : goal.loop-a-init
loop-a-init c =
    let a = c.args in
    halved_start
    (before_by_cue a.text.now a.table.now a.ptext.now a.ptable.now a.rows.now a.cues.now (decode a.name.now) a.past)
    a.lo a.hi c.requires.0.0

pub stands_before-requires : goal.stands_before-requires
stands_before-requires c =
    let p = c.requires in
    (omega (arith, p.0.1), omega (arith, p.1))

pub loop-a-preserved-then-stands_before : goal.loop-a-preserved-then-stands_before
loop-a-preserved-then-stands_before c =
    let a = c.args in
    let l = c.loop-a in
    let m = c.probe-m in
    halved_up
    (before_by_cue a.text.now a.table.now a.ptext.now a.ptable.now a.rows.now a.cues.now (decode a.name.now) a.past)
    a.lo a.hi l.invariant m.result m.ensures.0 m.ensures.1 (rw c.stands_before.ensures at c.if-stands_before.true)

pub loop-a-preserved : goal.loop-a-preserved
loop-a-preserved c =
    let a = c.args in
    let l = c.loop-a in
    let m = c.probe-m in
    halved_down
    (before_by_cue a.text.now a.table.now a.ptext.now a.ptable.now a.rows.now a.cues.now (decode a.name.now) a.past)
    a.lo a.hi l.invariant m.result m.ensures.0 m.ensures.1 (rw c.stands_before.ensures at c.if-stands_before.false)

pub returns : goal.returns
returns c =
    let a = c.args in
    bound_made a.text.now a.table.now a.ptext.now a.ptable.now a.rows.now a.cues.now (decode a.name.now) a.past
    c.loop-a.invariant c.loop-a-test.false

pub first_step-step-requires : goal.first_step-step-requires
first_step-step-requires c = tt

pub probe-m-requires : goal.probe-m-requires
probe-m-requires c = c.loop-a-test.true

pub overflow_sub-b : goal.overflow_sub-b
overflow_sub-b c = c.loop-a.invariant.meet

pub next_step-step-requires : goal.next_step-step-requires
next_step-step-requires c = tt

pub overflow_add-a : goal.overflow_add-a
overflow_add-a c = omega (arith, c.probe-m.ensures.1)

pub loop-a-smaller-then-stands_before : goal.loop-a-smaller-then-stands_before
loop-a-smaller-then-stands_before c = omega (arith, c.probe-m.ensures)

pub loop-a-smaller : goal.loop-a-smaller
loop-a-smaller c = omega (arith, c.probe-m.ensures)
