-- Laws of lists of small numbers:
--     below_at                   where every element is small, each place has a small one
--     each_below, below_each     the same by `Each` and by recursion
-- Assumes nothing.
use mathlib.Core.List.{List, [], ◌∷◌}
use Prim.Native.Nat.{ℕ, zero, suc, ◌<◌}
use native.Mathlib.Omega.{arith}
use lib.ListN.{length, get_or}
use Rattle.laws.specs.Each.{Each, none, more}

-- every element is below n; a text of bytes has all below 256
abbrev pub AllBelow : ℕ → List ℕ → Type 0
AllBelow n [] = Prim.Unit {0}
AllBelow n (x ∷ xs) = (x < n) × AllBelow n xs

pub below_at_lem : (n : ℕ) (xs : List ℕ) → AllBelow n xs → (i d : ℕ) → i < length xs → get_or xs i d < n
below_at_lem n [] p i d h = absurd (omega arith)
below_at_lem n (x ∷ xs) p zero d h = p.0
below_at_lem n (x ∷ xs) p (suc i) d h = below_at_lem n xs p.1 i d (omega arith)

pub each_below : {n : ℕ} {xs : List ℕ} → Each (λ x. x < n) xs → AllBelow n xs
each_below none = tt
each_below (more h e) = (h, each_below e)

pub below_each : (n : ℕ) (xs : List ℕ) → AllBelow n xs → Each (λ x. x < n) xs
below_each n [] h = none
below_each n (x ∷ xs) h = more h.0 (below_each n xs h.1)
