-- Parts of a list (specs/Lists.antt), element by element:
--     part_none, part-more     a part from a place to itself is empty; any other has the element at its start, and then the part from the next place on
--     part-back, part_out      a part that ends before it starts, or past the list's end, is empty
--     part-here, part-short    so is any from a place to itself; and none is longer than the list
--     part-some                a part that is not empty lies inside the list
--     part-getD                an element of a part is one of the list
--     part-part                a part of a part is a part of the list
-- Assumes nothing.
use Prim.Native.Nat.{ℕ, suc, ◌+◌, ◌-◌, ◌≤◌, ◌<◌}
use mathlib.Core.Path.{◌≡◌, refl, ap, sym, ◌∙◌}
use mathlib.Core.Bool.{Bool, true, false, cond}
use mathlib.Core.List.{List, [], ◌∷◌}
use native.Mathlib.Decide.{dec_le}
use native.Mathlib.Nat.{add_assoc}
use native.Mathlib.Omega.{arith}
use lib.Dec.{leb}
use lib.ListN.{length, get_or}
use lib.Seq.{get_or-take, get_or-drop, ext_get_or}
use borrow.Author.Tests.{le-leb, lt-leb}
use Rattle.laws.specs.Lists.{part_of}
use Rattle.laws.proofs.Places.{drop_byte}
use Rattle.laws.proofs.Splits.{length_part}
use Rattle.laws.proofs.Branches.{if_most}

no_matter : (b : Bool) → ◌≡◌ {A = List ℕ} (cond b [] []) []
no_matter true = refl
no_matter false = refl

pub part_none : (l : List ℕ) (i : ℕ) → i ≤ length l → part_of l i i ≡ []
unfolding part_of
part_none l i h = let n : i - i ≡ 0 = omega arith in rw (le-leb i (length l) h, le-leb i i (omega arith), n)

pub part_back : (l : List ℕ) (i e : ℕ) → e < i → part_of l i e ≡ []
unfolding part_of
part_back l i e h = rw (lt-leb i e h) (no_matter (leb e (length l)))

pub part_out : (l : List ℕ) (i e : ℕ) → length l < e → part_of l i e ≡ []
unfolding part_of
part_out l i e h = rw (lt-leb e (length l) h)

pub part_here : (l : List ℕ) (i : ℕ) → part_of l i i ≡ []
part_here l i = elim (dec_le i (length l)) [
  | yes le ↦ part_none l i le
  | no lt ↦ part_out l i i (omega arith)
]

pub part_short : (l : List ℕ) (i e : ℕ) → length (part_of l i e) ≤ length l
part_short l i e = elim (dec_le e (length l)) [
  | yes inside ↦ elim (dec_le i e) [
    | yes up ↦ omega (arith, length_part l i e up inside)
    | no back ↦ omega (arith, ap length (part_back l i e (omega arith)))
  ]
  | no out ↦ omega (arith, ap length (part_out l i e (omega arith)))
]

pub part_more : (l : List ℕ) (i e : ℕ) → i < e → e ≤ length l → part_of l i e ≡ get_or l i 256 ∷ part_of l (i + 1) e
unfolding part_of
part_more l i e h k =
    let n : e - i ≡ suc (e - (i + 1)) = omega arith in
    rw (le-leb e (length l) k, le-leb i e (omega arith), le-leb (i + 1) e (omega arith), n, drop_byte l i (omega arith))

pub part_some : (l : List ℕ) (i e x : ℕ) (w : List ℕ) → part_of l i e ≡ x ∷ w → (i ≤ e) × (e ≤ length l)
unfolding part_of
part_some l i e x w =
    if_most P e (length l) (λ h. if_most P i e (λ k z. (k, h)) (λ k z. absurd (nothing z))) (λ h z. absurd (nothing z))
  where
    P : List ℕ → Type 0
    P v = v ≡ x ∷ w → (i ≤ e) × (e ≤ length l)

    nothing : [] ≡ x ∷ w → ⊥
    nothing z = let n : ◌≡◌ {A = ℕ} 0 1 = cc in omega arith

pub part_get_d : (l : List ℕ) (i e k d : ℕ) → e ≤ length l → i + k < e → get_or (part_of l i e) k d ≡ get_or l (i + k) d
unfolding part_of
part_get_d l i e k d h lt =
    rw (le-leb e (length l) h, le-leb i e (omega arith), get_or-take (e - i) _ k d (omega arith), get_or-drop)

module _ (l : List ℕ) (a e i j : ℕ) (h : a ≤ e) (k : e ≤ length l) (p : i ≤ j) (q : j ≤ e - a) where
  pub part_part : part_of (part_of l a e) i j ≡ part_of l (a + i) (a + j)
  part_part =
      let n = length_part l a e h k in
      let m = length_part (part_of l a e) i j p (omega arith) in
      let o = length_part l (a + i) (a + j) (omega arith) (omega arith) in
      ext_get_or 0 (part_of (part_of l a e) i j) (part_of l (a + i) (a + j)) (omega arith)
      (λ x lt.
      part_get_d (part_of l a e) i j x 0 (omega arith) (omega arith)
      ∙ part_get_d l a e (i + x) 0 k (omega arith)
      ∙ rw (sym (add_assoc a i x)) (sym (part_get_d l (a + i) (a + j) x 0 (omega arith) (omega arith))))
