-- `json_reader::quoted::order_along` meets its contract: from the first difference on the names are decoded, or the bytes there decide (`quoted_differs`).
-- Assumes nothing.
use mathlib.Core.Path.{◌∙◌}
use native.Mathlib.Omega.{arith}
use Rattle.json_reader.proofs.Comparing.{quoted_differs}
use Rattle.json_reader.specs.Quoted.{AlikeFrom}
use Rattle.json_reader.proofs.Eights.{common_written, alike_written}
use Rattle.json_reader.proofs.quoted.order_along.Goals as goal

-- what the names have in common as they are written
run : (c : goal.After-order_at) → let a = c.args in AlikeFrom a.text.now a.a a.b c.alike_from-k.result
run c = alike_written _ _ _ _ c.alike_from-k.ensures (omega (arith, c.peek-p.ensures.value, c.peek-p.ensures.small))

pub returns : goal.returns
returns c =
    let q = c in
    let p = c in
    let k = c in
    let a = k.args in
    c.order_at.ensures
    ∙ rw (c.ended-2.ensures, c.ended.ensures)
    (quoted_differs a.text.now a.a a.b k.alike_from-k.result (run c) p.peek-p.ensures.value q.peek-q.ensures.value
    q.if-p-eq-BACKSLASH.false c.if-q-eq-BACKSLASH.false)

pub overflow_add-x : goal.overflow_add-x
overflow_add-x c = omega (arith, c.alike_from-k.ensures.run.first)

pub overflow_add-y : goal.overflow_add-y
overflow_add-y c = omega (arith, c.alike_from-k.ensures.run.second)

pub returns-then-p-eq-BACKSLASH : goal.returns-then-p-eq-BACKSLASH
returns-then-p-eq-BACKSLASH c = c.order_decoded.ensures ∙ (common_written _ _ _ _ c.alike_from-k.ensures.run.alike).ordered

pub returns-then-q-eq-BACKSLASH : goal.returns-then-q-eq-BACKSLASH
returns-then-q-eq-BACKSLASH c = c.order_decoded-then-q-eq-BACKSLASH.ensures ∙ (common_written _ _ _ _ c.alike_from-k.ensures.run.alike).ordered
