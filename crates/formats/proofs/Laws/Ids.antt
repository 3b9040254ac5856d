-- An Id byte by byte: what is still asked of the bytes left, after so many that passed. Assumes nothing.
use mathlib.Core.Path.{◌≡◌, refl}
use mathlib.Core.List.{List, [], ◌∷◌}
use mathlib.Core.Bool.{Bool, true, false, cond}
use Prim.Native.Nat.{ℕ, ◌+◌, ◌≤◌}
use native.Mathlib.Nat.{zero-add}
use native.Mathlib.Decide.{dec_le}
use native.Mathlib.Omega.{arith}
use lib.ListN.{length}
use lib.Dec.{ltb}
use borrow.Author.Tests.{lt-ltb, le-ltb}
use Rattle.laws.specs.Tests.{every}
use Rattle.contact.specs.Values.{id_byte, is_id}

pub id_after : (passed : ℕ) → List ℕ → Bool
id_after n l = cond (ltb (n + length l) 1) false (cond (ltb 255 (n + length l)) false (every id_byte l))

pub id_start : (l : List ℕ) → is_id l ≡ id_after 0 l
unfolding is_id id_after
id_start l = rw zero-add

pub id_end : (n : ℕ) → n ≤ 255 → id_after n [] ≡ ltb 0 n
unfolding every id_after
id_end n h = elim (dec_le 1 n) [
  | yes k ↦ simp (le-ltb (n + 0) 1 (omega arith), le-ltb 255 (n + 0) (omega arith), lt-ltb 0 n (omega arith))
  | no k ↦ simp (lt-ltb (n + 0) 1 (omega arith), le-ltb 0 n (omega arith))
]

module _ (n b : ℕ) (l : List ℕ) where
  pub id_on : id_byte b ≡ true → id_after n (b ∷ l) ≡ id_after (n + 1) l
  unfolding every id_after
  id_on h = let e : n + length (b ∷ l) ≡ n + 1 + length l = omega arith in rw (e, every, h)

  pub id_other : id_byte b ≡ false → id_after n (b ∷ l) ≡ false
  unfolding every id_after
  id_other h = rw (every, h) (neither (ltb (n + length (b ∷ l)) 1) (ltb 255 (n + length (b ∷ l))))
    where
      neither : (p q : Bool) → cond p false (cond q false false) ≡ false
      neither true q = refl
      neither false true = refl
      neither false false = refl

  pub id_long : n ≡ 255 → id_after n (b ∷ l) ≡ false
  unfolding id_after
  id_long h = simp (le-ltb (n + length (b ∷ l)) 1 (omega arith), lt-ltb 255 (n + length (b ∷ l)) (omega arith))
