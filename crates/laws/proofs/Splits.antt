-- A list from a place on that begins with a run of elements: `drop i l ≡ w ++ r`.
--     there, first-there     the elements of the run stand in the list, from the place on
--     beyond                 behind the run stands what follows it
--     within                 the run lies inside the list
--     part-there, there-part the run is the part of the list from the place on, and such a part is a run
-- Assumes nothing.
use mathlib.Core.Path.{◌≡◌, sym, ap, ◌∙◌}
use mathlib.Core.List.{List, [], ◌∷◌, ◌++◌}
use Prim.Native.Nat.{ℕ, ◌+◌, ◌-◌, ◌<◌, ◌≤◌}
use native.Mathlib.Nat.{add-zero}
use native.Mathlib.Omega.{arith}
use lib.ListN.{length, get_or, take, drop, length-append, length-drop, length-take, take-append-drop, get_or-append}
use lib.Seq.{get_or-drop, drop-drop, drop-append_seam, take-append_seam}
use borrow.Author.Tests.{le-leb}
use Rattle.laws.specs.Lists.{part_of}

pub there : (l : List ℕ) (i : ℕ) (w r : List ℕ) → drop i l ≡ w ++ r → (k d : ℕ) → k < length w → get_or l (i + k) d ≡ get_or w k d
there l i w r e k d h = sym (get_or-drop i l k d) ∙ ap (λ (s : List ℕ). get_or s k d) e ∙ get_or-append w r d k h

pub first_there : (l : List ℕ) (i x : ℕ) (r : List ℕ) → drop i l ≡ x ∷ r → (d : ℕ) → get_or l i d ≡ x
first_there l i x r e d = ap (λ (j : ℕ). get_or l j d) (sym (add-zero i)) ∙ there l i (x ∷ []) r e 0 d (omega arith)

pub beyond : (l : List ℕ) (i : ℕ) (w r : List ℕ) → drop i l ≡ w ++ r → drop (i + length w) l ≡ r
beyond l i w r e = sym (drop-drop (length w) i l) ∙ ap (drop (length w)) e ∙ drop-append_seam w r

pub within : (l : List ℕ) (i : ℕ) (w r : List ℕ) → drop i l ≡ w ++ r → 0 < length w → i + length w ≤ length l
within l i w r e h =
    let a = length-drop i l in
    let b = length-append w r in
    let c : length (drop i l) ≡ length (w ++ r) = ap length e in
    omega arith

pub part_there : (l : List ℕ) (i : ℕ) (w r : List ℕ) → drop i l ≡ w ++ r → i + length w ≤ length l → part_of l i (i + length w) ≡ w
unfolding part_of
part_there l i w r e h =
    let n : i + length w - i ≡ length w = omega arith in
    simp (le-leb (i + length w) (length l) h, le-leb i (i + length w) (omega arith), n, e) (take-append_seam w r)

pub there_part : (l : List ℕ) (i e : ℕ) → i ≤ e → e ≤ length l → drop i l ≡ part_of l i e ++ drop e l
unfolding part_of
there_part l i e h k =
    let n : i + (e - i) ≡ e = omega arith in
    simp (le-leb e (length l) k, le-leb i e h) (sym (take-append-drop (e - i) (drop i l)) ∙ ap (λ (r : List ℕ). take (e - i) (drop i l) ++ r) (drop-drop (e - i) i l ∙ ap (λ (j : ℕ). drop j l) n))

pub length_part : (l : List ℕ) (i e : ℕ) → i ≤ e → e ≤ length l → length (part_of l i e) ≡ e - i
unfolding part_of
length_part l i e h k = simp (le-leb e (length l) k, le-leb i e h, length-take, length-drop) (omega arith)
