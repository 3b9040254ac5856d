-- `json_reader::plain::alike_eights` meets its contract: each turn adds the bytes that were told alike and in the class (`alike_eight`). The measure is what is left
-- of the text behind so many bytes. Assumes nothing.
use mathlib.Core.Path.{◌≡◌}
use Prim.Native.Nat.{◌+◌}
use native.Mathlib.Omega.{arith}
use Rattle.json_reader.specs.Plain.{AlikeTo}
use Rattle.json_reader.proofs.Eights.{alike_none, alike_eight}
use Rattle.json_reader.proofs.plain.alike_eights.Goals as goal

on : (g : _) (c : goal.Else-run-lt8 g)
    → let l = c in
    let a = l.args in
    AlikeTo g.C.Eights.holds a.text.now a.a a.other.now a.b (l.loop-k.k + c.alike_bytes-run.result)
on g c =
    let l = c in
    let r = c in
    let o = c in
    let t = c in
    let a = t.args in
    alike_eight g.C.Eights.holds a.text.now a.other.now (λ i. omega (arith, t.type_inv.text i))
    (λ i. omega (arith, o.type_inv.other i)) a.a a.b 8 c.alike_bytes-run.result l.loop-k.k l.loop-k.invariant
    c.alike_bytes-run.ensures.0 (omega (arith, r.room-most.ensures.0)) (omega (arith, r.room-most.ensures.1))
    (rw (c.eight.ensures, c.eight-in-loop-k.ensures) at c.alike_bytes-run.ensures.1)

-- all eight
pub loop-k-preserved : goal.loop-k-preserved
loop-k-preserved g c = let e : c.alike_bytes-run.result ≡ 8 = omega (arith, c.alike_bytes-run.ensures.0) in rw e at (on g c)

pub returns-then-most-lt8 : goal.returns-then-most-lt8
returns-then-most-lt8 g c = alike_none _ _ _ _ _

pub loop-k-init : goal.loop-k-init
loop-k-init g c = alike_none _ _ _ _ _

pub overflow_add-a : goal.overflow_add-a
overflow_add-a g c = omega (arith, c.room-most.ensures.0)

pub eight-requires : goal.eight-requires
eight-requires g c = omega (arith, c.room-most.ensures.0)

pub overflow_add-b : goal.overflow_add-b
overflow_add-b g c = omega (arith, c.room-most.ensures.1)

pub eight-requires-in-loop-k : goal.eight-requires-in-loop-k
eight-requires-in-loop-k g c = omega (arith, c.room-most.ensures.1)

on_2 : (g : _) (c : goal.Then-run-lt8 g)
    → let l = c in
    let a = l.args in
    AlikeTo g.C.Eights.holds a.text.now a.a a.other.now a.b (l.loop-k.k + c.alike_bytes-run.result)
on_2 g c =
    let l = c in
    let r = c in
    let o = c in
    let t = c in
    let a = t.args in
    alike_eight g.C.Eights.holds a.text.now a.other.now (λ i. omega (arith, t.type_inv.text i))
    (λ i. omega (arith, o.type_inv.other i)) a.a a.b 8 c.alike_bytes-run.result l.loop-k.k l.loop-k.invariant
    c.alike_bytes-run.ensures.0 (omega (arith, r.room-most.ensures.0)) (omega (arith, r.room-most.ensures.1))
    (rw (c.eight.ensures, c.eight-in-loop-k.ensures) at c.alike_bytes-run.ensures.1)

pub overflow_add-to : goal.overflow_add-to
overflow_add-to g c = omega (arith, (on_2 g c).first)

pub returns-then-run-lt8 : goal.returns-then-run-lt8
returns-then-run-lt8 g c = on_2 g c

pub overflow_add-k : goal.overflow_add-k
overflow_add-k g c = omega (arith, (loop-k-preserved g c).first)

pub loop-k-smaller : goal.loop-k-smaller
loop-k-smaller g c = omega (arith, (loop-k-preserved g c).first)

pub returns : goal.returns
returns g c = c.loop-k.invariant
