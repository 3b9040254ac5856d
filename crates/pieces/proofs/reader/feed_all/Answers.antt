-- `pieces::reader::feed_all` meets its contract: each turn goes on over a run (`run_at`) and then over one byte (`one_more`); an answer stays (`over_all`). The
-- measure is what is left of the text. Assumes nothing.
use mathlib.Core.Path.{◌≡◌, refl}
use Prim.Native.Nat.{◌+◌, ◌-◌, ◌≤◌, ◌<◌}
use native.Mathlib.Omega.{arith}
use lib.ListN.{length}
use Rattle.text.specs.Limits.{base}
use Rattle.text.specs.Text.{byte_at}
use Rattle.wire.specs.Machine.{feed}
use Rattle.wire.specs.Held.{state_of, state_at}
use Rattle.pieces.proofs.Feeding.{After, none_yet, run_at, one_more, all_fed, over_all, inside_still}
use Rattle.pieces.proofs.reader.feed_all.Goals as goal

-- behind the run
at_run : (c : goal.After-at_place)
    → let a = c.args in
    After (state_of a.start) a.text.now a.start.place c.run-run.result.to c.moved-h.result
at_run c =
    let a = c.args in
    run_at (state_of a.start) a.text.now a.start.place c.loop-start.i c.run-run.result.spot c.run-run.result.to c.loop-start.h c.moved-h.result c.loop-start.invariant.0
    c.loop-start.invariant.2 c.run-run.ensures c.moved-h.ensures

pub returns-then-to-stop : goal.returns-then-to-stop
returns-then-to-stop c =
    let a = c.args in
    all_fed (state_of a.start) a.text.now a.start.place c.run-run.result.to a.last c.moved-h.result c.at_place.result c.run-run.ensures.inside
    c.if-to-stop.true (at_run c) c.at_place.ensures

-- behind the run
at_run_2 : (c : goal.Then-h-ge-OVER)
    → let a = c.args in
    After (state_of a.start) a.text.now a.start.place c.run-run.result.to c.moved-h.result
at_run_2 c =
    let a = c.args in
    run_at (state_of a.start) a.text.now a.start.place c.loop-start.i c.run-run.result.spot c.run-run.result.to c.loop-start.h c.moved-h.result c.loop-start.invariant.0
    c.loop-start.invariant.2 c.run-run.ensures c.moved-h.ensures

-- the byte behind it
at_byte : (c : goal.Then-h-ge-OVER)
    → let a = c.args in
    state_at (a.start.place + c.run-run.result.to + 1) c.feed-h.result ≡ feed base (state_at (a.start.place + c.run-run.result.to) c.moved-h.result) (byte_at a.text.now c.run-run.result.to)
at_byte c = rw (← c.peek.ensures.value) c.feed-h.ensures

pub returns-then-h-ge-OVER : goal.returns-then-h-ge-OVER
returns-then-h-ge-OVER c =
    let a = c.args in
    over_all (state_of a.start) a.text.now a.start.place c.run-run.result.to a.last c.moved-h.result c.feed-h.result c.run-run.ensures.inside
    c.if-to-stop.false c.if-h-ge-OVER.true (at_run_2 c) (at_byte c)

-- the byte behind it
at_byte_2 : (c : goal.Else-h-ge-OVER)
    → let a = c.args in
    state_at (a.start.place + c.run-run.result.to + 1) c.feed-h.result ≡ feed base (state_at (a.start.place + c.run-run.result.to) c.moved-h.result) (byte_at a.text.now c.run-run.result.to)
at_byte_2 c = rw (← c.peek.ensures.value) c.feed-h.ensures

-- where there is no answer, the byte stood in the text
inside : (c : goal.Else-h-ge-OVER)
    → let a = c.args in
    c.run-run.result.to < length a.text.now
inside c =
    let a = c.args in
    inside_still a.text.now (a.start.place + c.run-run.result.to) c.run-run.result.to c.moved-h.result c.feed-h.result (omega arith) (at_byte_2 c)

pub loop-start-smaller : goal.loop-start-smaller
loop-start-smaller c =
    omega (arith, inside c, c.run-run.ensures.later)

-- behind the run
at_run_3 : (c : goal.Else-h-ge-OVER)
    → let a = c.args in
    After (state_of a.start) a.text.now a.start.place c.run-run.result.to c.moved-h.result
at_run_3 c =
    let a = c.args in
    run_at (state_of a.start) a.text.now a.start.place c.loop-start.i c.run-run.result.spot c.run-run.result.to c.loop-start.h c.moved-h.result c.loop-start.invariant.0
    c.loop-start.invariant.2 c.run-run.ensures c.moved-h.ensures

pub loop-start-preserved : goal.loop-start-preserved
loop-start-preserved c =
    let a = c.args in
    let l = inside c in
    (omega arith, omega arith, one_more (state_of a.start) a.text.now a.start.place c.run-run.result.to c.moved-h.result c.feed-h.result l (at_run_3 c) (at_byte_2 c))

pub loop-start-init : goal.loop-start-init
loop-start-init c =
    (c.requires.going, omega arith, none_yet (state_of c.args.start) c.args.text.now c.args.start.place c.args.start refl)

pub run-run-requires : goal.run-run-requires
run-run-requires c = record { from_in_bounds = c.loop-start.invariant.1; going = c.loop-start.invariant.0 }

pub feed-h-requires : goal.feed-h-requires
feed-h-requires c =
    rw c.moved-h.ensures c.run-run.ensures.going_on

-- the limit leaves room for all of the text
room : (c : goal.After-moved-h)
    → let a = c.args in c.run-run.result.to ≤ 1048576 - a.start.place
room c = omega (arith, c.run-run.ensures.inside, c.requires.text_len_bound)

pub overflow_cast-place : goal.overflow_cast-place
overflow_cast-place c = omega (arith, room c)

-- the limit leaves room for all of the text
room_2 : (c : goal.After-struct_known-1)
    → let a = c.args in c.run-run.result.to ≤ 1048576 - a.start.place
room_2 c = omega (arith, c.run-run.ensures.inside, c.requires.text_len_bound)

pub overflow_add-place : goal.overflow_add-place
overflow_add-place c = omega (arith, room_2 c)

pub overflow_add-i : goal.overflow_add-i
overflow_add-i c = omega (arith, inside c)
