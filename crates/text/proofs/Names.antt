-- Names are told apart by `same`: `by_name` is the case split. Assumes nothing.
use mathlib.Core.Path.{◌≡◌, sym, ◌∙◌}
use mathlib.Core.Bool.{true, false, true≢false}
use mathlib.Core.Logic.{◌≢◌, ◌⊎◌, inl, inr, ⊎_elim}
use Rattle.laws.proofs.Bools.{by_test}
use Rattle.laws.specs.Order.{same}
use Rattle.laws.proofs.Orders.{eq_same, same_eq}
use Rattle.text.specs.Doc.{Name}

pub same_yes : {a b : Name} → a ≡ b → same a b ≡ true
same_yes {a} {b} e = eq_same a b e

pub same_no : {a b : Name} → a ≢ b → same a b ≡ false
same_no {a} {b} h = by_test (same a b) (λ e. absurd (h (same_eq a b e))) (λ e. e)

pub same? : (a b : Name) → (a ≡ b) ⊎ (a ≢ b)
same? a b = by_test (same a b) (λ e. inl (same_eq a b e)) (λ e. inr (λ p. true≢false (sym (same_yes p) ∙ e)))

-- by whether the two are one name
pub by_name : {G : Type 0} (a b : Name) → (a ≡ b → G) → (a ≢ b → G) → G
by_name a b f g = ⊎_elim f g (same? a b)
