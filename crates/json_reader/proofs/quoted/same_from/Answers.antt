-- `json_reader::quoted::same_from` meets its contract: the first bytes decide where they differ and none is a backslash (`quoted_differs`). Assumes nothing.
use mathlib.Core.Path.{◌≡◌, sym, ap, ◌∙◌}
use mathlib.Core.List.{List}
use Prim.Native.Nat.{ℕ}
use native.Mathlib.Nat.{add-zero}
use Rattle.laws.specs.Order.{is_same, order_of}
use Rattle.text.specs.Text.{byte_at}
use Rattle.repeats.specs.Quoted.{quoted_from}
use Rattle.json_reader.specs.Names.{order_at}
use Rattle.json_reader.specs.Quoted.{ended}
use Rattle.json_reader.proofs.Ordered.{is_same_equal}
use Rattle.json_reader.proofs.Comparing.{common_none, quoted_differs}
use Rattle.json_reader.proofs.quoted.same_from.Goals as goal

differ : (t : List ℕ) (a b p q : ℕ) → p ≡ byte_at t a → q ≡ byte_at t b → (p ≡ q → ⊥) → (p ≡ 92 → ⊥) → (q ≡ 92 → ⊥)
    → order_at (ended p) (ended q) ≡ order_of (quoted_from t a) (quoted_from t b)
differ t a b p q e f n s z =
    let x = ap (byte_at t) (add-zero a) in
    let y = ap (byte_at t) (add-zero b) in
    quoted_differs t a b 0 (record { common = common_none t a b; stops = λ g m. absurd (n (e ∙ sym x ∙ g ∙ y ∙ sym f)) }) (e ∙ sym x) (f ∙ sym y) s z

pub returns : goal.returns
returns c =
    let q = c in
    let a = q.args in
    c.is_eq-2.ensures ∙ is_same_equal _ ∙ ap is_same (c.order_at.ensures
    ∙ rw (c.ended-2.ensures, c.ended.ensures)
    (differ a.text.now a.a a.b q.peek-first.result q.peek-second.result q.peek-first.ensures.value q.peek-second.ensures.value
    c.if-first-second.false c.if-first-eq-BACKSLASH.false c.if-second-eq-BACKSLASH.false))
