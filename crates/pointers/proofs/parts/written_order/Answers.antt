-- `pointers::parts::written_order` meets its contract: the order of what is left at the two places is that of what was left at first. Each turn passes
-- what they have in common and reads a glyph of each, and the laws of two glyphs say what follows. The measure is what is left of the part. Assumes nothing.
use Prim.Native.Nat.{◌+◌, ◌<◌}
use mathlib.Core.Path.{◌≡◌, refl, ap, ◌∙◌}
use native.Mathlib.Omega.{arith}
use lib.ListN.{length}
use Rattle.laws.specs.Order.{order_of}
use Rattle.pointers.specs.Parts.{name_left, left_at}
use Rattle.pointers.proofs.Laws.Glyphs.{common_spelled, shown_order, shown_ends, shown_on}
use Rattle.pointers.proofs.parts.written_order.Goals as goal

pub returns-in_default : goal.returns-in_default
returns-in_default g c =
    let a = c.args in
    let i = c.loop-p.i + c.alike_from-run.result in
    let j = c.loop-p.j + c.alike_from-run.result in
    let x = c.left.result in
    let y = c.left-in_default.result in
    let one : name_left g.A.Kind.part x.key.now x.at ≡ left_at g.A.Kind.part a.key.now i = rw (c.left.ensures.0, c.left.ensures.1, c.cursor_at.ensures) refl in
    let two : name_left g.B.Kind.part y.key.now y.at ≡ left_at g.B.Kind.part a.name.now j
    = rw (c.left-in_default.ensures.0, c.left-in_default.ensures.1, c.cursor_at-in_default.ensures) refl in
    c.decoded_order.ensures ∙ ap (λ l. order_of l (name_left g.B.Kind.part y.key.now y.at)) one ∙ ap (order_of (left_at g.A.Kind.part a.key.now i)) two
    ∙ (common_spelled _ _ _ _ _ c.alike_from-run.ensures.run.alike).ordered g.A.Kind.part g.B.Kind.part ∙ c.loop-p.invariant.0

pub returns-then-x-y : goal.returns-then-x-y
returns-then-x-y g c =
    let a = c.args in
    c.order_at.ensures
    ∙ shown_order a.key.now a.name.now g.A.Kind.part g.B.Kind.part (c.loop-p.i + c.alike_from-run.result) (c.loop-p.j + c.alike_from-run.result)
    c.in-Some-Some.p c.in-Some-Some.q c.in-Some-Some.ensures c.in-Some-Some.ensures' c.if-x-y.true
    ∙ (common_spelled _ _ _ _ _ c.alike_from-run.ensures.run.alike).ordered g.A.Kind.part g.B.Kind.part ∙ c.loop-p.invariant.0

pub returns-then-x-eq-OVER : goal.returns-then-x-eq-OVER
returns-then-x-eq-OVER g c =
    let a = c.args in
    shown_ends a.key.now a.name.now g.A.Kind.part g.B.Kind.part (c.loop-p.i + c.alike_from-run.result) (c.loop-p.j + c.alike_from-run.result)
    c.in-Some-Some.p c.in-Some-Some.q c.in-Some-Some.ensures c.in-Some-Some.ensures' c.if-x-y.false c.if-x-eq-OVER.true
    ∙ (common_spelled _ _ _ _ _ c.alike_from-run.ensures.run.alike).ordered g.A.Kind.part g.B.Kind.part ∙ c.loop-p.invariant.0

pub loop-p-smaller : goal.loop-p-smaller
loop-p-smaller g c =
    let P = c.in-Some-Some.ensures in
    let small : c.in-Some-Some.p.value < 256 = omega (arith, P.most, c.if-x-eq-OVER.false) in
    omega (arith, ap length (P.byte small), (common_spelled _ _ _ _ _ c.alike_from-run.ensures.run.alike).fewer g.A.Kind.part)

pub loop-p-preserved : goal.loop-p-preserved
loop-p-preserved g c =
    let a = c.args in
    let P = c.in-Some-Some.ensures in
    let Q = c.in-Some-Some.ensures' in
    let small : c.in-Some-Some.p.value < 256 = omega (arith, P.most, c.if-x-eq-OVER.false) in (
      shown_on a.key.now a.name.now g.A.Kind.part g.B.Kind.part (c.loop-p.i + c.alike_from-run.result) (c.loop-p.j + c.alike_from-run.result)
          c.in-Some-Some.p c.in-Some-Some.q P Q c.if-x-y.false small
          ∙ (common_spelled _ _ _ _ _ c.alike_from-run.ensures.run.alike).ordered g.A.Kind.part g.B.Kind.part ∙ c.loop-p.invariant.0,
      omega (arith, P.within small),
      omega (arith, Q.within (omega (arith, small, c.if-x-y.false))),
    )
