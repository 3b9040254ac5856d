-- `pointers::parts::tilde_at` meets its contract: each way is a law of what a `~` and the byte after it show. Assumes nothing.
use mathlib.Core.Path.{sym, ◌∙◌}
use native.Mathlib.Omega.{arith}
use Rattle.pointers.proofs.Laws.Glyphs.{tilde_inside, tilde_one, tilde_zero, tilde_alone}
use Rattle.pointers.proofs.parts.tilde_at.Goals as goal

pub overflow_add-at : goal.overflow_add-at
overflow_add-at c = omega (arith, tilde_inside c.args.key.now c.args.at c.requires)

pub returns-then-b-eq-ONE : goal.returns-then-b-eq-ONE
returns-then-b-eq-ONE c =
    tilde_one c.args.key.now c.args.at c.requires (sym c.peek-b.ensures.value ∙ c.if-b-eq-ONE.true)

pub returns-then-b-eq-ZERO : goal.returns-then-b-eq-ZERO
returns-then-b-eq-ZERO c =
    tilde_zero c.args.key.now c.args.at c.requires (sym c.peek-b.ensures.value ∙ c.if-b-eq-ZERO.true)

pub returns : goal.returns
returns c =
    let p = c.peek-b in
    tilde_alone c.args.key.now c.args.at c.requires (omega (arith, p.ensures.value, p.ensures.small)) (λ z. c.if-b-eq-ONE.false (p.ensures.value ∙ z))
    (λ z. c.if-b-eq-ZERO.false (p.ensures.value ∙ z)) (λ z. c.if-b-eq-BACKSLASH.false (p.ensures.value ∙ z))
