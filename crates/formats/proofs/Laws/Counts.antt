-- An unsigned integer digit by digit: what is still asked of the bytes left, after digits of a value. Assumes nothing.
use mathlib.Core.Path.{◌≡◌, refl, sym, ◌∙◌}
use mathlib.Core.List.{List, [], ◌∷◌}
use mathlib.Core.Bool.{Bool, true, false, cond}
use Prim.Native.Nat.{ℕ, ◌+◌, ◌-◌, ◌*◌, ◌≤◌, ◌<◌}
use native.Mathlib.Omega.{arith}
use lib.Dec.{ltb, leb}
use borrow.Author.Tests.{lt-ltb, le-ltb, le-leb, lt-leb, ltb-true}
use native.Mathlib.Decide.{dec_le}
use native.Mathlib.Numerals.{add-one}
use lib.ListN.{length, get_or, drop}
use lib.Seq.{drop-cons}
use Rattle.laws.proofs.Picks.{never}
use Rattle.laws.specs.Tests.{every}
use Rattle.std.specs.Char.{is_ascii_digit}
use Rattle.text.specs.Tokens.{is_digit}
use Rattle.contact.specs.Values.{value_from, is_count}

-- the library's test of a digit, of which only the order is written otherwise
pub ascii_digit : (b : ℕ) {r : Bool} → r ≡ is_ascii_digit b → is_digit b ≡ r
ascii_digit b e =
    sym (e ∙ elim (dec_le 48 b) [
      | yes k ↦ elim (dec_le b 57) [
        | yes l ↦ simp (le-leb 48 b k, le-leb b 57 l, le-ltb b 48 k, lt-ltb b 58 (omega arith))
        | no l ↦ simp (le-leb 48 b k, lt-leb b 57 (omega arith), le-ltb b 48 k, le-ltb b 58 (omega arith))
      ]
      | no k ↦ simp (lt-leb 48 b (omega arith), lt-ltb b 48 (omega arith))
    ])

-- a digit as a number
pub record Digit (b : ℕ) : Type 0 where
  pub least : 48 ≤ b
  pub most : b < 58

pub digit_range : (b : ℕ) → is_digit b ≡ true → Digit b
digit_range b h = elim (dec_le 48 b) [
  | yes k ↦ record { least = k; most = ltb-true b 58 (rw (le-ltb b 48 k) at h) }
  | no k ↦ let f : false ≡ true = rw (lt-ltb b 48 (omega arith)) at h in let z : ◌≡◌ {A = ℕ} 0 1 = cc in absurd (omega arith)
]

-- the digit at a place, and those after it
pub digits_from : (l : List ℕ) (i : ℕ) → i < length l → drop i l ≡ get_or l i 0 ∷ drop (i + 1) l
digits_from l i h = rw (add-one, drop-cons l i 0)

module _ (low high : ℕ) where
  in_bounds : ℕ → Bool
  in_bounds v = cond (ltb 9007199254740991 v) false (cond (ltb v low) false (leb v high))

  pub count_after : (value : ℕ) → List ℕ → Bool
  count_after v l = cond (every is_digit l) (in_bounds (value_from v l)) false

  pub count_start : (l : List ℕ) → is_count low high l ≡ count_after 0 l
  unfolding is_count count_after in_bounds
  count_start l = refl

  pub count_end : (v : ℕ) → v ≤ 9007199254740991 → count_after v [] ≡ cond (ltb v low) false (leb v high)
  unfolding every value_from count_after in_bounds
  count_end v h = rw (le-ltb 9007199254740991 v h)

  module _ (v b : ℕ) (l : List ℕ) where
    pub count_on : is_digit b ≡ true → count_after v (b ∷ l) ≡ count_after (10 * v + (b - 48)) l
    unfolding every value_from count_after
    count_on h = rw (every, h)

    pub count_other : is_digit b ≡ false → count_after v (b ∷ l) ≡ false
    unfolding every count_after
    count_other h = rw (every, h)

  -- digits that follow make no number smaller, so one that is too large stays so
  grows : (v : ℕ) (l : List ℕ) → v ≤ value_from v l
  unfolding value_from
  grows v [] = omega arith
  grows v (b ∷ l) = omega (arith, grows (10 * v + (b - 48)) l)

  pub count_over : (v : ℕ) (l : List ℕ) → 9007199254740991 < v → count_after v l ≡ false
  unfolding count_after in_bounds
  count_over v l h = rw (lt-ltb 9007199254740991 (value_from v l) (omega (arith, grows v l))) (never (every is_digit l))
