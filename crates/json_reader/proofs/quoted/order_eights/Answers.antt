-- `json_reader::quoted::order_eights` meets its contract: the bytes behind what the names have in common decide where they differ (`quoted_told`), and else all that
-- follows does. Assumes nothing.
use mathlib.Core.Path.{◌≡◌, ◌∙◌}
use native.Mathlib.Omega.{arith}
use Rattle.laws.specs.Order.{order_of}
use Rattle.repeats.specs.Quoted.{quoted_from}
use Rattle.json_reader.specs.Names.{order_at}
use Rattle.json_reader.specs.Quoted.{CommonFrom}
use Rattle.json_reader.proofs.Comparing.{quoted_told}
use Rattle.json_reader.proofs.Eights.{common_plain}
use Rattle.json_reader.proofs.quoted.order_eights.Goals as goal

pub overflow_add-x : goal.overflow_add-x
overflow_add-x c = omega (arith, c.alike_eights-k.ensures.first)

pub overflow_add-y : goal.overflow_add-y
overflow_add-y c = omega (arith, c.alike_eights-k.ensures.second)

-- what the names have in common
common : (c : goal.After-order_at) → let a = c.args in CommonFrom a.text.now a.a a.b c.alike_eights-k.result
common c = common_plain _ _ _ _ c.alike_eights-k.ensures.alike

-- the two bytes decide, if they are over where they are alike
told : (c : goal.After-order_at) → let a = c.args in
    (c.ended-first.result ≡ c.ended-second.result → c.ended-first.result ≡ 256)
    → order_at c.ended-first.result c.ended-second.result ≡ order_of (quoted_from a.text.now a.a) (quoted_from a.text.now a.b)
told c both =
    let q = c in
    let p = c in
    let k = c in
    let a = k.args in
    rw (c.ended-first.ensures, c.ended-second.ensures)
    (quoted_told a.text.now a.a a.b k.alike_eights-k.result (common c) p.peek-p.ensures.value q.peek-q.ensures.value
    q.if-p-ne-BACKSLASH.true c.if-q-ne-BACKSLASH.true (rw (c.ended-first.ensures, c.ended-second.ensures) at both))

pub returns-then-first-second : goal.returns-then-first-second
returns-then-first-second c = c.order_at.ensures ∙ told c (λ e. absurd (c.if-first-second.true e))

-- what the names have in common
common_2 : (c : goal.After-order_along) → let a = c.args in CommonFrom a.text.now a.a a.b c.alike_eights-k.result
common_2 c = common_plain _ _ _ _ c.alike_eights-k.ensures.alike

pub returns : goal.returns
returns c = c.order_along.ensures ∙ (common_2 c).ordered
