-- A place is looked for by halving: up to it a test passes, and from it on it fails.
--     halved-start, halved-up, halved-down, halved-end     what is known of the places that are left, as they become fewer
-- Assumes nothing.
use mathlib.Core.Path.{◌≡◌, refl}
use mathlib.Core.Bool.{Bool, true, false}
use Prim.Native.Nat.{ℕ, ◌+◌, ◌≤◌, ◌<◌}
use native.Mathlib.Omega.{arith}

module _ (p : ℕ → Bool) (lo hi : ℕ) where
  -- where the test passes it passes at every place before
  abbrev pub Falling : Type 0
  Falling = (k l : ℕ) → lo ≤ k → k ≤ l → l < hi → p l ≡ true → p k ≡ true

  -- before a it passes, from b on it fails
  pub record Sides (a b : ℕ) : Type 0 where
    pub passes : (k : ℕ) → lo ≤ k → k < a → p k ≡ true
    pub fails : (k : ℕ) → b ≤ k → k < hi → p k ≡ false

  -- the place is from a to b
  pub record Halved (a b : ℕ) : Type 0 where
    pub low : lo ≤ a
    pub meet : a ≤ b
    pub high : b ≤ hi
    pub sides : Falling → Sides a b

  pub halved_start : lo ≤ hi → Halved lo hi
  halved_start h =
      record {
        low = omega arith;
        meet = h;
        high = omega arith;
        sides = λ f. record { passes = λ k x y. absurd (omega arith); fails = λ k x y. absurd (omega arith) };
      }

  module _ {a b : ℕ} (h : Halved a b) (m : ℕ) (x : a ≤ m) (y : m < b) where
    pub halved_up : p m ≡ true → Halved (m + 1) b
    halved_up e =
        record {
          low = omega (arith, h.low);
          meet = omega arith;
          high = h.high;
          sides = λ f. record { passes = λ k u v. f k m u (omega arith) (omega (arith, h.high)) e; fails = (h.sides f).fails };
        }

    -- a test that fails fails at every place after
    pub halved_down : p m ≡ false → Halved a m
    halved_down e =
        record {
          low = h.low;
          meet = x;
          high = omega (arith, h.high);
          sides = λ f. record { passes = (h.sides f).passes; fails = λ k u v. opposite (p k) refl λ t. f m k (omega (arith, h.low)) u v t };
        }
      where
        opposite : {k : ℕ} (t : Bool) → p k ≡ t → (p k ≡ true → p m ≡ true) → p k ≡ false
        opposite true g w = let s : p m ≡ true = w g in let z : ◌≡◌ {A = ℕ} 0 1 = cc in absurd (omega arith)
        opposite false g w = g

  pub halved_end : {a b : ℕ} → Halved a b → b ≤ a → Falling → Sides a a
  halved_end {a} {b} h e f = let g : b ≡ a = omega (arith, h.meet) in rw g at (h.sides f)
