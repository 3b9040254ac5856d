-- `fields::places::order_bytes` meets its contract: bytes that both runs have decide nothing, and at the first difference they decide. Assumes nothing.
use mathlib.Core.Path.{◌≡◌, refl, sym, ◌∙◌}
use Prim.Native.Nat.{◌<◌}
use native.Mathlib.Omega.{arith}
use lib.ListN.{length}
use Rattle.laws.specs.Order.{order_of}
use Rattle.laws.proofs.Places.{inside}
use Rattle.text.specs.Text.{byte_at}
use borrow.Author.Tests.{eq-eqb}
use Rattle.json_reader.specs.Names.{order_at}
use Rattle.fields.proofs.Runs.{run_more, run_told}
use Rattle.fields.proofs.places.order_bytes.Goals as goal

-- the bytes at a place decide, from where the second one was looked at
told : (c : goal.After-order_at)
    → let a = c.args in let l = c.loop-i in
    (byte_at a.a.now l.i ≡ byte_at a.b.now l.i → byte_at a.a.now l.i ≡ 256)
    → order_at c.peek-p.result c.peek-q.result ≡ order_of a.a.now a.b.now
told c stops =
    let a = c.args in
    let l = c.loop-i in
    rw (c.peek-p.ensures.value, c.peek-q.ensures.value)
    (run_told a.a.now a.b.now l.i l.invariant (omega (arith, c.type_inv.a l.i)) (omega (arith, c.type_inv.b l.i))
    (omega (arith, c.peek-p.ensures)) (omega (arith, c.peek-q.ensures)) stops)

pub returns-then-p-q : goal.returns-then-p-q
returns-then-p-q c =
    c.order_at.ensures ∙ told c (λ e. absurd (c.if-p-q.true (c.peek-p.ensures.value ∙ e ∙ sym c.peek-q.ensures.value)))

-- the bytes at a place decide, from where the second one was looked at
told_2 : (c : goal.Then-p-eq-OVER)
    → let a = c.args in let l = c.loop-i in
    (byte_at a.a.now l.i ≡ byte_at a.b.now l.i → byte_at a.a.now l.i ≡ 256)
    → order_at c.peek-p.result c.peek-q.result ≡ order_of a.a.now a.b.now
told_2 c stops =
    let a = c.args in
    let l = c.loop-i in
    rw (c.peek-p.ensures.value, c.peek-q.ensures.value)
    (run_told a.a.now a.b.now l.i l.invariant (omega (arith, c.type_inv.a l.i)) (omega (arith, c.type_inv.b l.i))
    (omega (arith, c.peek-p.ensures)) (omega (arith, c.peek-q.ensures)) stops)

pub returns-then-p-eq-OVER : goal.returns-then-p-eq-OVER
unfolding order_at
returns-then-p-eq-OVER c =
    rw (eq-eqb c.peek-p.result c.peek-q.result c.if-p-q.false) at (told_2 c (λ e. sym c.peek-p.ensures.value ∙ c.if-p-eq-OVER.true))

-- where the byte is not the end, it stands in the first run
byte : (c : goal.Else-p-eq-OVER) → byte_at c.args.a.now c.loop-i.i < 256
byte c = let p = c.peek-p in omega (arith, p.ensures.value, p.ensures.small)

pub loop-i-preserved : goal.loop-i-preserved
loop-i-preserved c =
    let a = c.args in
    run_more a.a.now a.b.now c.loop-i.i c.loop-i.invariant (sym c.peek-p.ensures.value ∙ c.if-p-q.false ∙ c.peek-q.ensures.value) (byte c)

pub loop-i-init : goal.loop-i-init
loop-i-init c = refl

pub peek-p-requires : goal.peek-p-requires
peek-p-requires c = tt

pub peek-q-requires : goal.peek-q-requires
peek-q-requires c = tt

pub order_at-requires : goal.order_at-requires
order_at-requires c = tt

in_first : (c : goal.Else-p-eq-OVER) → c.loop-i.i < length c.args.a.now
in_first c = inside c.args.a.now c.loop-i.i (byte c)

pub overflow_add-i : goal.overflow_add-i
overflow_add-i c = omega (arith, in_first c)

pub loop-i-smaller : goal.loop-i-smaller
loop-i-smaller c = omega (arith, in_first c)
