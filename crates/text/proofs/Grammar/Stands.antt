-- Bytes that stand in a text, and texts that are like one up to a place. Assumes nothing.
use mathlib.Core.Path.{◌≡◌, refl, sym, ◌∙◌}
use mathlib.Core.List.{List, [], ◌∷◌, ◌++◌}
use mathlib.Core.Bool.{Bool, true, false}
use Prim.Native.Nat.{ℕ, suc, ◌+◌, ◌≤◌, ◌<◌}
use native.Mathlib.Omega.{arith}
use native.Mathlib.Nat.{add-zero, le_refl}
use lib.ListN.{length}
use lib.Dec.{ltb}
use borrow.Author.Tests.{ltb-true, ltb-false}
use Rattle.laws.proofs.Places.{inside}
use Rattle.text.specs.Text.{byte_at}

pub clash : {A : Type 0} (c : Bool) → c ≡ true → c ≡ false → A
clash c e h = let z : true ≡ false = sym e ∙ h in let n : ◌≡◌ {A = ℕ} 0 1 = cc in absurd (omega arith)

pub by_order : {A : Type 0} (a b : ℕ) → (a < b → A) → (b ≤ a → A) → A
by_order {A} a b y n = go (ltb a b) refl
  where
    go : (c : Bool) → ltb a b ≡ c → A
    go true e = y (ltb-true a b e)
    go false e = n (ltb-false a b e)

-- the bytes w stand in t from `at` to `to`
pub data BytesStand (t : List ℕ) : ℕ → ℕ → List ℕ → Type 0 where
  done : {at : ℕ} → BytesStand t at at []
  next : {at to x : ℕ} {w : List ℕ} → byte_at t at ≡ x → at < length t → BytesStand t (at + 1) to w → BytesStand t at to (x ∷ w)

-- at each place from `at` on and before q, w has the byte that t has
pub data Like (t : List ℕ) (q : ℕ) : ℕ → List ℕ → Type 0 where
  done : {at : ℕ} → q ≤ at → Like t q at []
  next : {at x : ℕ} {w : List ℕ} → (at < q → byte_at t at ≡ x) → Like t q (at + 1) w → Like t q at (x ∷ w)

module _ {t : List ℕ} where
  pub one_stands : {at x : ℕ} → byte_at t at ≡ x → x < 256 → BytesStand t at (at + 1) (x ∷ [])
  one_stands {at} e h = BytesStand.next e (inside t at (omega arith)) BytesStand.done

  pub stands_join : {at mid to : ℕ} {v w : List ℕ} → BytesStand t at mid v → BytesStand t mid to w → BytesStand t at to (v ++ w)
  stands_join BytesStand.done h = h
  stands_join (BytesStand.next e i s) h = BytesStand.next e i (stands_join s h)

  pub stands_split : {at to : ℕ} (v : List ℕ) {w : List ℕ} → BytesStand t at to (v ++ w) → (mid : ℕ) × BytesStand t at mid v × BytesStand t mid to w
  stands_split {at} [] s = (at, BytesStand.done, s)
  stands_split {at} (x ∷ v) (BytesStand.next e i s) = let h = stands_split {at = at + 1} v s in (h.0, BytesStand.next e i h.1, h.2)

  pub stands_to : {at to : ℕ} {w : List ℕ} → BytesStand t at to w → to ≡ at + length w
  stands_to BytesStand.done = sym (add-zero _)
  stands_to (BytesStand.next e i s) = let h = stands_to s in omega arith

  pub stands_inside : {at to : ℕ} {w : List ℕ} → BytesStand t at to w → at ≤ length t → to ≤ length t
  stands_inside BytesStand.done i = i
  stands_inside (BytesStand.next e l s) i = stands_inside s (omega arith)

  pub like_none : {q at : ℕ} (w : List ℕ) → q ≤ at → Like t q at w
  like_none [] h = Like.done h
  like_none {q} {at} (x ∷ w) h = Like.next (λ (l : at < q). absurd (omega arith)) (like_none {at = at + 1} w (omega arith))

  pub like_stands : {at to : ℕ} {w : List ℕ} → BytesStand t at to w → Like t to at w
  like_stands BytesStand.done = Like.done (le_refl _)
  like_stands (BytesStand.next e i s) = Like.next (λ l. e) (like_stands s)

  pub like_more : {q at : ℕ} {v : List ℕ} (w : List ℕ) → Like t q at v → Like t q at (v ++ w)
  like_more w (Like.done h) = like_none w h
  like_more w (Like.next e h) = Like.next e (like_more w h)

  pub like_join : {q at mid : ℕ} {v w : List ℕ} → BytesStand t at mid v → Like t q mid w → Like t q at (v ++ w)
  like_join BytesStand.done h = h
  like_join (BytesStand.next e i s) h = Like.next (λ l. e) (like_join s h)

  pub like_tail : {q at x : ℕ} {w : List ℕ} → Like t q at (x ∷ w) → Like t q (at + 1) w
  like_tail (Like.next e h) = h

  pub like_skip : {q at : ℕ} (v : List ℕ) {w : List ℕ} → Like t q at (v ++ w) → Like t q (at + length v) w
  like_skip [] h = rw add-zero h
  like_skip {at} (x ∷ v) h =
      let e : at + 1 + length v ≡ at + suc (length v) = omega arith in
      rw e at (like_skip {at = at + 1} v (like_tail h))

  pub like_here : {q at : ℕ} {w : List ℕ} → Like t q at w → at < q → byte_at t at ≡ byte_at w 0
  like_here (Like.done h) l = absurd (omega arith)
  like_here (Like.next e h) l = e l

  -- where the text goes another way, it is past q
  pub like_stuck : {q at x : ℕ} {w : List ℕ} → Like t q at (x ∷ w) → (byte_at t at ≡ x → ⊥) → q ≤ at
  like_stuck {q} {at} h k = by_order at q (λ l. absurd (k (like_here h l))) (λ l. l)

  -- as far as a place before
  pub like_less : {p q at : ℕ} {w : List ℕ} → p ≤ q → Like t q at w → Like t p at w
  like_less l (Like.done {at} h) = Like.done {at = at} (omega arith)
  like_less {p} {q} l (Like.next {at} {x} e h) = Like.next {at = at} (λ k. e (omega arith)) (like_less l h)
