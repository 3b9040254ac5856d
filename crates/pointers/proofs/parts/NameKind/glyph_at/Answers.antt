-- `pointers::parts::Name::glyph_at` meets its contract: a byte that is no backslash is the glyph (`name_glyph`). Assumes nothing.
use mathlib.Core.Path.{◌∙◌}
use native.Mathlib.Omega.{arith}
use Rattle.pointers.proofs.Laws.Glyphs.{name_glyph}
use Rattle.pointers.proofs.parts.NameKind.glyph_at.Goals as goal

pub returns : goal.returns
returns c =
    let p = c.peek-b.ensures in
    rw p.value
    (name_glyph c.args.key.now c.args.at (omega (arith, p.value, p.small)) (λ z. c.if-b-eq-BACKSLASH.false (p.value ∙ z)))
