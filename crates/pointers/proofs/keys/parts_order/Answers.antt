-- `pointers::keys::parts_order` meets its contract. Assumes nothing.
use mathlib.Core.Path.{refl, sym, ◌∙◌}
use mathlib.Core.Bool.{true}
use Rattle.json_reader.specs.Cursors.{rest}
use Rattle.text.specs.Utf8.{conts}
use Rattle.contact.specs.Pointer.{pointer_of}
use Rattle.pointers.proofs.Laws.Parts.{order_sides}
use Rattle.pointers.proofs.Laws.Pointers.{order_first, order_ends, order_left, order_right, order_on, tied}
use Rattle.pointers.proofs.keys.parts_order.Goals as goal

pub loop-x-init : goal.loop-x-init
unfolding conts
loop-x-init c = rw (c.cursor_at-x.ensures, c.cursor_at-y.ensures) refl

pub returns-then-is_ne : goal.returns-then-is_ne
returns-then-is_ne c =
    let a = c.args in
    let l = c.loop-x in
    let sides = order_sides true true c.left.ensures.0 c.left.ensures.1 c.left-in-loop-x.ensures.0 c.left-in-loop-x.ensures.1 in
    sym (order_first (pointer_of (rest a.a.now l.x)) (pointer_of (rest a.b.now l.y)) c.part_order-order.result
    (sym sides ∙ sym c.part_order-order.ensures) (sym c.is_ne.ensures ∙ c.if-is_ne.true))
    ∙ l.invariant

pub returns-in-None-None : goal.returns-in-None-None
returns-in-None-None c =
    let a = c.args in
    let l = c.loop-x in
    let sides = order_sides true true c.left.ensures.0 c.left.ensures.1 c.left-in-loop-x.ensures.0 c.left-in-loop-x.ensures.1 in
    sym (order_ends (pointer_of (rest a.a.now l.x)) (pointer_of (rest a.b.now l.y))
    (sym sides ∙ sym c.part_order-order.ensures ∙ tied _ (sym c.is_ne.ensures ∙ c.if-is_ne.false))
    (rw c.in-None-None.is-0 at c.next_part.ensures.goes) (rw c.in-None-None.is-1 at c.next_part-in-loop-x.ensures.goes)) ∙ l.invariant

pub returns-in-None-Some : goal.returns-in-None-Some
returns-in-None-Some c =
    let a = c.args in
    let l = c.loop-x in
    let sides = order_sides true true c.left.ensures.0 c.left.ensures.1 c.left-in-loop-x.ensures.0 c.left-in-loop-x.ensures.1 in
    sym (order_left (pointer_of (rest a.a.now l.x)) (pointer_of (rest a.b.now l.y))
    (sym sides ∙ sym c.part_order-order.ensures ∙ tied _ (sym c.is_ne.ensures ∙ c.if-is_ne.false))
    (rw c.in-None-Some.is-0 at c.next_part.ensures.goes) (rw c.in-None-Some.is-1 at c.next_part-in-loop-x.ensures.goes)) ∙ l.invariant

pub returns-in-Some-None : goal.returns-in-Some-None
returns-in-Some-None c =
    let a = c.args in
    let l = c.loop-x in
    let sides = order_sides true true c.left.ensures.0 c.left.ensures.1 c.left-in-loop-x.ensures.0 c.left-in-loop-x.ensures.1 in
    sym (order_right (pointer_of (rest a.a.now l.x)) (pointer_of (rest a.b.now l.y))
    (sym sides ∙ sym c.part_order-order.ensures ∙ tied _ (sym c.is_ne.ensures ∙ c.if-is_ne.false))
    (rw c.in-Some-None.is-0 at c.next_part.ensures.goes) (rw c.in-Some-None.is-1 at c.next_part-in-loop-x.ensures.goes)) ∙ l.invariant

pub loop-x-preserved : goal.loop-x-preserved
loop-x-preserved c =
    let a = c.args in
    let l = c.loop-x in
    let sides = order_sides true true c.left.ensures.0 c.left.ensures.1 c.left-in-loop-x.ensures.0 c.left-in-loop-x.ensures.1 in
    sym (order_on (pointer_of (rest a.a.now l.x)) (pointer_of (rest a.b.now l.y))
    (sym sides ∙ sym c.part_order-order.ensures ∙ tied _ (sym c.is_ne.ensures ∙ c.if-is_ne.false))
    (rw c.in-Some-Some.is-0 at c.next_part.ensures.goes) (rw c.in-Some-Some.is-1 at c.next_part-in-loop-x.ensures.goes)) ∙ l.invariant
