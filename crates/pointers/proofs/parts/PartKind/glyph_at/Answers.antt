-- `pointers::parts::Part::glyph_at` meets its contract: each way is a law of what a byte, or the glyph of a name, shows. Assumes nothing.
use mathlib.Core.Path.{sym, ◌∙◌}
use native.Mathlib.Omega.{arith}
use Rattle.pointers.proofs.Laws.Glyphs.{part_glyph, slash_glyph}
use Rattle.pointers.proofs.parts.PartKind.glyph_at.Goals as goal

pub returns-then-b-eq-SLASH : goal.returns-then-b-eq-SLASH
returns-then-b-eq-SLASH c = slash_glyph c.args.key.now c.args.at (sym c.peek-b.ensures.value ∙ c.if-b-eq-SLASH.true)

pub returns : goal.returns
returns c =
    let p = c.peek-b.ensures in
    rw p.value
    (part_glyph c.args.key.now c.args.at (omega (arith, p.value, p.small)) (λ z. c.if-b-eq-BACKSLASH.false (p.value ∙ z))
    (λ z. c.if-b-eq-SLASH.false (p.value ∙ z)) (λ z. c.if-b-eq-TILDE.false (p.value ∙ z)))
