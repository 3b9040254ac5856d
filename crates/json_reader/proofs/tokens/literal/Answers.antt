-- `json_reader::tokens::literal` meets its contract: the word's bytes from `i` on, from `at` on, are what all of them are from `from` on. Assumes nothing.
use mathlib.Core.Path.{refl}
use native.Mathlib.Omega.{arith}
use lib.ListN.{drop_of_length-le}
use borrow.Author.Tests.{eq-eqb, ne_eqb}
use Rattle.laws.proofs.Places.{inside, ended, drop_byte}
use Rattle.text.specs.Tokens.{word_at}
use Rattle.json_reader.proofs.tokens.literal.Goals as goal

pub loop-from-init : goal.loop-from-init
loop-from-init c = refl

pub returns-then-want-eq-OVER : goal.returns-then-want-eq-OVER
unfolding word_at
returns-then-want-eq-OVER c =
    let a = c.args in
    let l = c.loop-from in
    let e = ended a.lit.now l.i (omega (arith, c.type_inv.lit l.i)) (omega arith) in
    rw (← l.invariant, drop_of_length-le a.lit.now e)

pub returns-then-b-want : goal.returns-then-b-want
unfolding word_at
returns-then-b-want c =
    let a = c.args in
    let l = c.loop-from in
    let i = inside a.lit.now l.i (omega arith) in
    rw
    (← l.invariant, drop_byte a.lit.now l.i i, ← c.peek-want.ensures.value, ← c.peek-b.ensures.value, ne_eqb _ _ c.if-b-want.true)

pub overflow_add-at : goal.overflow_add-at
overflow_add-at c =
    let i = inside c.args.text.now c.loop-from.at
    (omega arith) in omega arith

pub overflow_add-i : goal.overflow_add-i
overflow_add-i c =
    let i = inside c.args.lit.now c.loop-from.i
    (omega arith) in omega arith

pub loop-from-smaller : goal.loop-from-smaller
loop-from-smaller c =
    let i = inside c.args.lit.now c.loop-from.i
    (omega arith) in omega arith

pub loop-from-preserved : goal.loop-from-preserved
unfolding word_at
loop-from-preserved c =
    let a = c.args in
    let l = c.loop-from in
    let i = inside a.lit.now l.i (omega arith) in
    rw
    (← l.invariant, drop_byte a.lit.now l.i i, ← c.peek-want.ensures.value, ← c.peek-b.ensures.value, eq-eqb _ _ c.if-b-want.false)
