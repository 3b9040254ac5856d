-- A rule of a table: a test that is computed at each entry, and one law that turns it into the rule at any of them. Assumes nothing.
use mathlib.Core.Path.{◌≡◌, refl}
use mathlib.Core.Bool.{Bool, true, false, cond}
use mathlib.Core.Logic.{⊎_elim}
use Prim.Native.Nat.{ℕ, zero, suc, ◌<◌}
use native.Mathlib.Nat.{eq-or-lt_of_le, le_of_suc-le-suc}
use native.Mathlib.Omega.{arith}

-- the test passes at each number below n
abbrev pub below : (ℕ → Bool) → ℕ → Bool
below f zero = true
below f (suc n) = cond (f n) (below f n) false

both : (a b : Bool) → cond a b false ≡ true → (a ≡ true) × (b ≡ true)
both true b e = (refl, e)
both false b e = let z : ◌≡◌ {A = ℕ} 0 1 = cc in absurd (omega arith)

pub below_at_lem : (f : ℕ → Bool) (n : ℕ) → below f n ≡ true → (i : ℕ) → i < n → f i ≡ true
below_at_lem f zero e i h = absurd (omega arith)
below_at_lem f (suc n) e i h =
    ⊎_elim (λ q. rw q (both (f n) (below f n) e).0) (λ l. below_at_lem f n (both (f n) (below f n) e).1 i l) (eq-or-lt_of_le (le_of_suc-le-suc h))
