-- `json_reader::names::slice_is` meets its contract: from the first difference on the string is decoded, or the bytes there decide (`literal_differs`).
-- Assumes nothing.
use mathlib.Core.Path.{◌∙◌}
use native.Mathlib.Omega.{arith}
use Rattle.json_reader.proofs.Alike.{literal_differs}
use Rattle.json_reader.proofs.Eights.{common_raw, alike_raw}
use Rattle.json_reader.proofs.names.slice_is.Goals as goal

pub returns : goal.returns
returns c =
    let p = c in
    let i = c in
    let a = i.args in
    rw (p.peek-p.ensures.value, c.peek.ensures.value)
    (literal_differs a.a.now a.lit.now i.alike_from-i.result (alike_raw _ _ _ c.alike_from-i.ensures (omega (arith, c.peek-p.ensures.value, c.peek-p.ensures.small))) (λ z. c.if-p-eq-BACKSLASH.false (p.peek-p.ensures.value ∙ z))
    (omega (arith, i.type_inv.lit i.alike_from-i.result)))

pub returns-then-p-eq-BACKSLASH : goal.returns-then-p-eq-BACKSLASH
returns-then-p-eq-BACKSLASH c = c.goes_on.ensures ∙ (common_raw _ _ _ c.alike_from-i.ensures.run.alike).literal
