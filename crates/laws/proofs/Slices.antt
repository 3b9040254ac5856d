-- The elements of a list from a place up to another, `slice lo hi l`:
--     slice-more, slice-none     the first of them, and then the others
--     slice_over                 from the end of the list on
--     slice-split                two parts that meet
--     slice_set                  a store behind a part makes it longer
--     slice-agree                lists that agree from the one place to the other
--     slice_all                  the whole list
--     each-slice                 what holds of each of them
-- Assumes nothing.
use mathlib.Core.Path.{◌≡◌, ap, sym, ◌∙◌}
use mathlib.Core.List.{List, [], ◌∷◌, ◌++◌}
use Prim.Native.Nat.{ℕ, zero, suc, ◌+◌, ◌≤◌, ◌<◌}
use native.Mathlib.Omega.{arith}
use native.Mathlib.Numerals.{add-one}
use lib.ListN.{length, get_or, set, take, drop, take-append-drop, drop_of_length-le}
use lib.Seq.{slice, take-length, slice-cons, slice_empty, length-slice, length-take-le, take-take, take-suc-set, drop-append-le, get_or-drop, get_or-take, ext_get_or}
use Rattle.laws.specs.Each.{Each, none, more}

pub slice_more : (lo hi : ℕ) (l : List ℕ) → lo < hi → hi ≤ length l → slice lo hi l ≡ get_or l lo 0 ∷ slice (lo + 1) hi l
slice_more lo hi l h k = rw add-one (slice-cons lo hi l 0 h k)

pub slice_none : (lo hi : ℕ) (l : List ℕ) → lo ≤ hi → hi ≤ lo → slice lo hi l ≡ []
slice_none lo hi l h k = let e : lo ≡ hi = omega arith in rw e (slice_empty hi l)

pub slice_over : (lo : ℕ) (l : List ℕ) → length l ≤ lo → slice lo (length l) l ≡ []
slice_over lo l h = ap (drop lo) (take-length l) ∙ drop_of_length-le l h

pub slice_split : (lo mid hi : ℕ) (l : List ℕ) → lo ≤ mid → mid ≤ hi → hi ≤ length l → slice lo hi l ≡ slice lo mid l ++ slice mid hi l
slice_split lo mid hi l p q r =
    ap (drop lo) (sym (take-append-drop mid (take hi l)) ∙ ap (λ (xs : List ℕ). xs ++ slice mid hi l) (take-take mid hi l q))
    ∙ drop-append-le lo (take mid l) (slice mid hi l) (omega (arith, length-take-le mid l (omega arith)))

pub slice_set : (lo k : ℕ) (l : List ℕ) (x : ℕ) → lo ≤ k → k < length l → slice lo (k + 1) (set l k x) ≡ slice lo k l ++ (x ∷ [])
slice_set lo k l x h p =
    rw add-one
    (ap (drop lo) (take-suc-set l k x p) ∙ drop-append-le lo (take k l) (x ∷ []) (omega (arith, length-take-le k l (omega arith))))

pub slice_at : (lo hi : ℕ) (l : List ℕ) (i : ℕ) → lo + i < hi → get_or (slice lo hi l) i 0 ≡ get_or l (lo + i) 0
slice_at lo hi l i h = get_or-drop lo (take hi l) i 0 ∙ get_or-take hi l (lo + i) 0 h

pub slice_agree : (lo hi : ℕ) (l m : List ℕ) → hi ≤ length l → hi ≤ length m → ((j : ℕ) → lo ≤ j → j < hi → get_or l j 0 ≡ get_or m j 0) → slice lo hi l ≡ slice lo hi m
slice_agree lo hi l m p q same =
    let a = length-slice lo hi l p in
    let b = length-slice lo hi m q in
    ext_get_or 0 (slice lo hi l) (slice lo hi m) (omega arith)
    (λ i h. slice_at lo hi l i (omega arith) ∙ same (lo + i) (omega arith) (omega arith) ∙ sym (slice_at lo hi m i (omega arith)))

pub slice_all : (l : List ℕ) → slice 0 (length l) l ≡ l
slice_all l = take-length l

pub each_slice : (P : ℕ → Type 0) (l : List ℕ) (left lo hi : ℕ) → lo + left ≡ hi → hi ≤ length l → ((j : ℕ) → j < hi → P (get_or l j 0)) → Each P (slice lo hi l)
each_slice P l zero lo hi e r h = rw (slice_none lo hi l (omega arith) (omega arith)) none
each_slice P l (suc left) lo hi e r h = rw (slice_more lo hi l (omega arith) r) (more (h lo (omega arith)) (each_slice P l left (lo + 1) hi (omega arith) r h))
