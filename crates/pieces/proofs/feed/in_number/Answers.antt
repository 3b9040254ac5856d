-- `pieces::feed::in_number` meets its contract, by what the byte does in the number. Assumes nothing.
use mathlib.Core.Path.{ap, ◌∙◌}
use Prim.Native.Nat.{◌+◌}
use native.Mathlib.Omega.{arith}
use borrow.Author.Tests.{eq-eqb, ne_eqb, lt-ltb, le-ltb}
use Rattle.wire.specs.Machine.{going, on_turn}
use Rattle.wire.specs.Held.{opened_of}
use Rattle.pieces.proofs.Steps.{number_is, refused_way, moved_way, spot_number}
use Rattle.pieces.proofs.feed.in_number.Goals as goal

pub returns-then-next-eq-AFTER : goal.returns-then-next-eq-AFTER
unfolding on_turn
returns-then-next-eq-AFTER c =
    let a = c.args in
    let next = c.turn-next.result in
    rw (number_is a.at a.h.values (opened_of a.h.depth a.h.opened) a.b a.k next c.turn-next.ensures, eq-eqb next 4 c.if-next-eq-AFTER.true)
    c.after.ensures

pub returns-then-next-lt-NUMBERS : goal.returns-then-next-lt-NUMBERS
unfolding on_turn
returns-then-next-lt-NUMBERS c =
    let a = c.args in
    let next = c.turn-next.result in
    rw (
      number_is a.at a.h.values (opened_of a.h.depth a.h.opened) a.b a.k next c.turn-next.ensures,
      ne_eqb next 4 c.if-next-eq-AFTER.false,
      lt-ltb next 14 c.if-next-lt-NUMBERS.true,
    )
    (refused_way a.at a.h a.b a.at c.told.result c.told.ensures)

pub returns-then-next-lt-TEXTS : goal.returns-then-next-lt-TEXTS
unfolding on_turn
returns-then-next-lt-TEXTS c =
    let a = c.args in
    let h = a.h in
    let next = c.turn-next.result in
    let high = c.if-next-lt-TEXTS.true in
    rw (
      number_is a.at h.values (opened_of h.depth h.opened) a.b a.k next c.turn-next.ensures,
      ne_eqb next 4 c.if-next-eq-AFTER.false,
      le-ltb next 14 (omega arith),
      lt-ltb next 22 high,
    )
    (moved_way a.at h a.b next c.moved.result (omega arith) c.moved.ensures
    ∙ ap (going (a.at + 1) h.values (opened_of h.depth h.opened)) (spot_number next h.from h.bits h.high (omega arith) high))

pub returns : goal.returns
unfolding on_turn
returns c =
    let a = c.args in
    let next = c.turn-next.result in
    rw (
      number_is a.at a.h.values (opened_of a.h.depth a.h.opened) a.b a.k next c.turn-next.ensures,
      ne_eqb next 4 c.if-next-eq-AFTER.false,
      le-ltb next 14 (omega arith),
      le-ltb next 22 (omega arith),
    )
    (refused_way a.at a.h a.b a.at c.told-2.result c.told-2.ensures)
