-- A test that decides a statement: it is true where the statement holds, and false where it doesn't. Tests are put together as statements are.
--     iff, told, denied, test-true, test-false   what a test that decides says, and what the statement says of the test
--     swap                                       the same test for a statement that follows from the other and back
--     below, upto, equal, bytes_same, itself     tests on numbers, on runs of bytes, and any test
--     either, both, unless                       `||`, `&&`, `not`
--     lets, bars, grants, asks                   `cond` with false or true for one of its ways
-- Assumes nothing.
use mathlib.Core.Path.{◌≡◌, refl, sym, ◌∙◌}
use mathlib.Core.Bool.{Bool, true, false, not, cond, ◌&&◌, ◌||◌, true≢false}
use mathlib.Core.Logic.{◌↔◌, ◌⊎◌, inl, inr, ⊎_elim}
use mathlib.Core.List.{List}
use Prim.Native.Nat.{ℕ, ◌<◌, ◌≤◌}
use native.Mathlib.Omega.{arith}
use lib.Dec.{ltb, leb, eqb}
use borrow.Author.Tests.{ltb-true, ltb-false, leb-true, leb-false, eqb-true, eqb-false}
use Rattle.laws.specs.Order.{same}
use Rattle.laws.proofs.Orders.{eq_same, same_eq}

pub data Decides (P : Type 0) : Bool → Type 0 where
  holds : P → Decides P true
  fails : (P → ⊥) → Decides P false

-- ---- what is known of a test that decides

pub told : {P : Type 0} {b : Bool} → Decides P b → b ≡ true → P
told (holds p) e = p
told (fails f) e = absurd (true≢false (sym e))

pub denied : {P : Type 0} {b : Bool} → Decides P b → b ≡ false → P → ⊥
denied (holds p) e = absurd (true≢false e)
denied (fails f) e = f

pub test_true : {P : Type 0} {b : Bool} → Decides P b → P → b ≡ true
test_true (holds p) q = refl
test_true (fails f) q = absurd (f q)

pub test_false : {P : Type 0} {b : Bool} → Decides P b → (P → ⊥) → b ≡ false
test_false (holds p) f = absurd (f p)
test_false (fails f) g = refl

pub iff : {P : Type 0} {b : Bool} → Decides P b → (b ≡ true) ↔ P
iff d = (told d, test_true d)

-- ---- how tests decide

-- from what a test's two values say
pub by : {P : Type 0} (b : Bool) → (b ≡ true → P) → (b ≡ false → P → ⊥) → Decides P b
by true f g = holds (f refl)
by false f g = fails (g refl)

pub swap : {P Q : Type 0} {b : Bool} → (P → Q) → (Q → P) → Decides P b → Decides Q b
swap f g (holds p) = holds (f p)
swap f g (fails n) = fails (λ q. n (g q))

pub below : (a b : ℕ) → Decides (a < b) (ltb a b)
below a b = by (ltb a b) (ltb-true a b) (λ e h. let k : b ≤ a = ltb-false a b e in omega arith)

pub upto : (a b : ℕ) → Decides (a ≤ b) (leb a b)
upto a b = by (leb a b) (leb-true a b) (λ e h. let k : b < a = leb-false a b e in omega arith)

pub equal : (a b : ℕ) → Decides (a ≡ b) (eqb a b)
equal a b = by (eqb a b) (eqb-true a b) (eqb-false a b)

pub bytes_same : (xs ys : List ℕ) → Decides (xs ≡ ys) (same xs ys)
bytes_same xs ys = by (same xs ys) (same_eq xs ys) (λ e h. true≢false (sym (eq_same xs ys h) ∙ e))

-- a test that its own value decides
pub itself : (b : Bool) → Decides (b ≡ true) b
itself true = holds refl
itself false = fails (λ e. true≢false (sym e))

-- ---- tests put together

pub either : {P Q : Type 0} {a b : Bool} → Decides P a → Decides Q b → Decides (P ⊎ Q) (a || b)
either (holds p) y = holds (inl p)
either (fails f) (holds q) = holds (inr q)
either (fails f) (fails g) = fails (⊎_elim f g)

pub both : {P Q : Type 0} {a b : Bool} → Decides P a → Decides Q b → Decides (P × Q) (a && b)
both (holds p) (holds q) = holds (p, q)
both (holds p) (fails g) = fails (λ h. g h.1)
both (fails f) y = fails (λ h. f h.0)

pub unless : {P : Type 0} {a : Bool} → Decides P a → Decides (P → ⊥) (not a)
unless (holds p) = fails (λ f. f p)
unless (fails f) = holds f

-- `cond` whose second way is false: both
pub lets : {P Q : Type 0} {a b : Bool} → Decides P a → Decides Q b → Decides (P × Q) (cond a b false)
lets (holds p) (holds q) = holds (p, q)
lets (holds p) (fails g) = fails (λ h. g h.1)
lets (fails f) y = fails (λ h. f h.0)

-- `cond` whose first way is false: the second alone
pub bars : {P Q : Type 0} {a b : Bool} → Decides P a → Decides Q b → Decides ((P → ⊥) × Q) (cond a false b)
bars (holds p) y = fails (λ h. h.0 p)
bars (fails f) (holds q) = holds (f, q)
bars (fails f) (fails g) = fails (λ h. g h.1)

-- `cond` whose first way is true: either
pub grants : {P Q : Type 0} {a b : Bool} → Decides P a → Decides Q b → Decides (P ⊎ Q) (cond a true b)
grants (holds p) y = holds (inl p)
grants (fails f) (holds q) = holds (inr q)
grants (fails f) (fails g) = fails (⊎_elim f g)

-- `cond` whose second way is true: the first way is asked only there
pub asks : {P Q : Type 0} {a b : Bool} → Decides P a → Decides Q b → Decides (P → Q) (cond a b true)
asks (holds p) (holds q) = holds (λ _. q)
asks (holds p) (fails g) = fails (λ h. g (h p))
asks (fails f) y = holds (λ p. absurd (f p))
