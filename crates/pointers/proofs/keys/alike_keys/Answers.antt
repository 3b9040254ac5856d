-- `pointers::keys::alike_keys` meets its contract: bytes that both keys have, up to a tilde that ends them (`alike_to_tilde`, `alike_past`).
-- Assumes nothing.
use mathlib.Core.Path.{sym, ◌∙◌}
use native.Mathlib.Omega.{arith}
use Rattle.pointers.proofs.Laws.Beginnings.{same_written, alike_none, alike_to_tilde, alike_past}
use Rattle.pointers.proofs.keys.alike_keys.Goals as goal

pub returns-then-peek-eq-TILDE : goal.returns-then-peek-eq-TILDE
returns-then-peek-eq-TILDE c =
    let a = c.args in
    alike_to_tilde a.a.now a.b.now c.alike_from-k.result (same_written _ _ c.alike_from-k.ensures.run) (omega (arith, c.if-k-eq0.false))
    (sym c.peek.ensures.value ∙ c.if-peek-eq-TILDE.true)

pub returns : goal.returns
returns c =
    let a = c.args in
    alike_past a.a.now a.b.now c.alike_from-k.result (same_written _ _ c.alike_from-k.ensures.run) (omega (arith, c.if-k-eq0.false))
    (λ e. c.if-peek-eq-TILDE.false (c.peek.ensures.value ∙ e))

pub returns-then-k-eq0 : goal.returns-then-k-eq0
returns-then-k-eq0 c = alike_none _ _

pub overflow_sub-last : goal.overflow_sub-last
overflow_sub-last c = omega (arith, c.if-k-eq0.false)
