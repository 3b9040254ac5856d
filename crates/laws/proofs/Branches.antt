-- Something of every outcome of a test: what holds of the one branch if the test passes, and of the other if it fails, holds of the `cond`.
-- For a definition that is a nest of tests: P is what is said of its result, and each branch is handed the fact that led to it.
-- Assumes nothing.
use mathlib.Core.Path.{◌≡◌, refl}
use mathlib.Core.Bool.{Bool, true, false, cond}
use Prim.Native.Nat.{ℕ, ◌≤◌, ◌<◌}
use lib.Dec.{ltb, leb, eqb}
use borrow.Author.Tests.{ltb-true, ltb-false, leb-true, leb-false, eqb-true, eqb-false}

module _ {A : Type 0} (P : A → Type 0) where
  either : (b : Bool) (x y : A) → (b ≡ true → P x) → (b ≡ false → P y) → P (cond b x y)
  either true x y p q = p refl
  either false x y p q = q refl

  pub if_less : (a b : ℕ) {x y : A} → (a < b → P x) → (b ≤ a → P y) → P (cond (ltb a b) x y)
  if_less a b {x} {y} p q = either (ltb a b) x y (λ e. p (ltb-true a b e)) (λ e. q (ltb-false a b e))

  pub if_equal : (a b : ℕ) {x y : A} → (a ≡ b → P x) → ((a ≡ b → ⊥) → P y) → P (cond (eqb a b) x y)
  if_equal a b {x} {y} p q = either (eqb a b) x y (λ e. p (eqb-true a b e)) (λ e. q (eqb-false a b e))

  pub if_most : (a b : ℕ) {x y : A} → (a ≤ b → P x) → (b < a → P y) → P (cond (leb a b) x y)
  if_most a b {x} {y} p q = either (leb a b) x y (λ e. p (leb-true a b e)) (λ e. q (leb-false a b e))

  pub if_true : (b : Bool) {x y : A} → (b ≡ true → P x) → (b ≡ false → P y) → P (cond b x y)
  if_true b {x} {y} p q = either b x y p q
