-- From places to texts: what stands in a text, or is like it, as a beginning of it. Assumes nothing.
use mathlib.Core.Path.{◌≡◌, refl, sym, ap, ◌∙◌}
use mathlib.Core.List.{List, [], ◌∷◌, ◌++◌, append-nil}
use Prim.Native.Nat.{ℕ, zero, suc, ◌+◌, ◌≤◌, ◌<◌}
use native.Mathlib.Omega.{arith}
use native.Mathlib.Nat.{add-zero, zero-add}
use native.Mathlib.Numerals.{add-one}
use lib.ListN.{length, take, drop, length-append, get_or-append}
use lib.Seq.{drop-cons, drop-length, length-take-le, get_or-take, get_or-append_seam}
use Rattle.text.specs.Text.{byte_at}
use Rattle.text.proofs.Grammar.Stands.{by_order, BytesStand, Like, like_more, like_tail, like_here}

pub byte_end : (t : List ℕ) → byte_at t (length t) ≡ 256
byte_end [] = refl
byte_end (x ∷ t) = byte_end t

module _ {t : List ℕ} where
  pub stands_drop : {at to : ℕ} {w : List ℕ} → BytesStand t at to w → drop at t ≡ w ++ drop to t
  stands_drop BytesStand.done = refl
  stands_drop {at} (BytesStand.next {x} e i s) = drop-cons t at 256 i ∙ rw (e, ← add-one at) (ap (λ (l : List ℕ). x ∷ l) (stands_drop s))

  -- what stands from the start to the end is the text
  pub stands_whole : {w : List ℕ} → BytesStand t 0 (length t) w → w ≡ t
  stands_whole {w} s = sym (stands_drop s ∙ rw drop-length (append-nil w))

  -- what is like a text as far as a place begins as it does
  like_begins : (k at : ℕ) (w : List ℕ) → Like t (at + k) at w → at + k ≤ length t → (u : List ℕ) × (w ≡ take k (drop at t) ++ u)
  like_begins zero at w h l = (w, refl)
  like_begins (suc k) at [] (Like.done h) l = absurd (omega arith)
  like_begins (suc k) at (x ∷ w) h l =
      let e : at + suc k ≡ at + 1 + k = omega arith in
      let i : at < length t = omega arith in
      let b = like_here h (omega arith) in
      let g = like_begins k (at + 1) w (rw e at (like_tail h)) (omega arith) in
      (g.0, rw (drop-cons t at 256 i, ← add-one at, b) (ap (λ (l : List ℕ). x ∷ l) g.1))

  pub like_first : {p : ℕ} {w : List ℕ} → Like t p 0 w → p ≤ length t → (u : List ℕ) × (w ≡ take p t ++ u)
  like_first {p} {w} h l = like_begins p 0 w (rw zero-add h) (omega arith)

  -- the other way
  like_by : (q at : ℕ) (w : List ℕ) → q ≤ at + length w → ((i : ℕ) → at + i < q → byte_at t (at + i) ≡ byte_at w i) → Like t q at w
  like_by q at [] l h = Like.done {at = at} (omega arith)
  like_by q at (x ∷ w) l h =
      Like.next {at = at} (λ k. rw add-zero at (h 0 (omega arith)))
      (like_by q (at + 1) w (omega arith) (λ i k. let e : at + suc i ≡ at + 1 + i = omega arith in rw e at (h (suc i) (omega arith))))

  pub like_take : (p : ℕ) (u r : List ℕ) → p < length t → Like t (p + 1) 0 ((take (p + 1) t ++ u) ++ r)
  like_take p u r l =
      like_more r (like_more u (like_by (p + 1) 0 (take (p + 1) t) (omega (arith, length-take-le (p + 1) t (omega arith)))
      (λ i k. rw zero-add (sym (get_or-take (p + 1) t i 256 (omega arith))))))

  pub like_whole : Like t (length t + 1) 0 (t ++ 256 ∷ [])
  like_whole =
      like_by (length t + 1) 0 (t ++ 256 ∷ []) (omega (arith, length-append t (256 ∷ [])))
      (λ i k. rw zero-add (by_order i (length t) (λ l. sym (get_or-append t (256 ∷ []) 256 i l))
      (λ l. let e : i ≡ length t = omega arith in rw e (byte_end t ∙ sym (get_or-append_seam t 256 [] 256)))))
