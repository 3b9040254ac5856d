-- The searches for a repeated name, over the words of a list:
--     earlier_kept, earlier_taken, earlier_first      the earlier of two places
--     known_any                                  is a label among those of some places?
--     beside_start, beside_same, beside_other, beside_end      neighbours, from the right to the left
--     beside_over, beside_all, found_earlier     and from the left to the right
--     direct-start, direct-new, direct-known, direct-end      each word against those before it
--     relabel                                    the first repeat under labels that agree in the same places
--     in-slice, few-none, found-less             what is found is one of the words
--     ascend-start .., ascending-none            labels that ascend repeat none
--     climbs-take                                the first of some places
-- Assumes nothing.
use mathlib.Core.Path.{◌≡◌, refl, sym, ap, ◌∙◌}
use mathlib.Core.List.{List, [], ◌∷◌, ◌++◌}
use mathlib.Core.Bool.{Bool, true, false, cond}
use Prim.Native.Nat.{ℕ, zero, suc, ◌+◌, ◌-◌, ◌≤◌, ◌<◌}
use native.Mathlib.Omega.{arith}
use native.Mathlib.Decide.{dec_le, dec_lt}
use lib.ListN.{length, get_or, take}
use lib.Seq.{slice}
use borrow.Author.Tests.{lt-ltb, le-ltb}
use Rattle.std.specs.Prelude.{ltb, ◌||◌, Option, Some, None, unwrap_or, is_some}
use Rattle.std.specs.List.{list_any}
use Rattle.laws.specs.Order.{same, before}
use Rattle.laws.proofs.Orders.{before_irrefl, before_trans}
use Rattle.laws.specs.Each as each
use Rattle.laws.proofs.Slices.{slice_more, slice_none, slice_over, slice_split, slice_all}
use Rattle.laws.specs.Earliest.{Climbs, up_none, up_more, Earliest, nowhere, found, earlier, known, repeat_from, first_repeat, beside_from, least_beside, place_of, ascend_from, ascending}
use Rattle.laws.proofs.Earliest.{Least, Repeats, least_unique, first_least}

-- ---- is a label among those of some places?

pub known_any : (label : ℕ → List ℕ) (name : List ℕ) (ps : List ℕ) → list_any (λ q. same (label q) name) ps ≡ known label name ps
unfolding known
known_any label name [] = refl
known_any label name (p ∷ ps) = go (same (label p) name) (known_any label name ps)
  where
    go : (b : Bool) {rest : Bool} → rest ≡ known label name ps → (b || rest) ≡ cond b true (known label name ps)
    go true e = refl
    go false e = e

-- ---- the earlier of two places

pub some_same : {x y : ℕ} → Some x ≡ Some y → x ≡ y
some_same {x} {y} e = ap (λ (o : Option ℕ). unwrap_or o x) e

pub none_not_some : {x : ℕ} → ◌≡◌ {A = Option ℕ} None (Some x) → ⊥
none_not_some e = let z : ◌≡◌ {A = ℕ} 0 1 = ap (λ (o : Option ℕ). cond (is_some o) 1 0) e in omega arith

pub earlier_kept : (p q : ℕ) (m : Earliest) → Some q ≡ place_of m → q < p → Some q ≡ place_of (earlier p m)
earlier_kept p q nowhere e h = absurd (none_not_some (sym e))
earlier_kept p q (found x) e h = let i : q ≡ x = some_same e in rw (← i, lt-ltb q p h)

pub earlier_taken : (p q : ℕ) (m : Earliest) → Some q ≡ place_of m → p ≤ q → Some p ≡ place_of (earlier p m)
earlier_taken p q nowhere e h = refl
earlier_taken p q (found x) e h = let i : q ≡ x = some_same e in rw (← i, le-ltb q p h)

pub earlier_first : (p : ℕ) (m : Earliest) → ◌≡◌ {A = Option ℕ} None (place_of m) → Some p ≡ place_of (earlier p m)
earlier_first p nowhere e = refl
earlier_first p (found x) e = absurd (none_not_some e)

pub found_earlier : (p : ℕ) (m : Earliest) → is_some (place_of (earlier p m)) ≡ true
found_earlier p nowhere = refl
found_earlier p (found q) = go (ltb q p)
  where
    go : (b : Bool) → is_some (place_of (cond b (found q) (found p))) ≡ true
    go true = refl
    go false = refl

module _ (label : ℕ → List ℕ) (l : List ℕ) where
  -- ---- neighbours

  pub beside_start : (hi : ℕ) → beside_from label (get_or l (hi - 1) 0) (slice hi hi l) ≡ nowhere
  unfolding beside_from
  beside_start hi = rw (slice_none hi hi l (omega arith) (omega arith))

  beside_turn : (k next hi : ℕ) → next ≡ k + 1 → k < hi → hi ≤ length l
      → beside_from label (get_or l (k - 1) 0) (slice k hi l)
      ≡ cond (same (label (get_or l (k - 1) 0)) (label (get_or l k 0))) (earlier (get_or l k 0) (beside_from label (get_or l k 0) (slice next hi l))) (beside_from label (get_or l k 0) (slice next hi l))
  unfolding beside_from
  beside_turn k next hi n h i = rw (slice_more k hi l h i, n)

  pub beside_same : (k next hi : ℕ) → next ≡ k + 1 → k < hi → hi ≤ length l → same (label (get_or l (k - 1) 0)) (label (get_or l k 0)) ≡ true
      → beside_from label (get_or l (k - 1) 0) (slice k hi l) ≡ earlier (get_or l k 0) (beside_from label (get_or l k 0) (slice next hi l))
  beside_same k next hi n h i e = beside_turn k next hi n h i ∙ rw e

  pub beside_other : (k next hi : ℕ) → next ≡ k + 1 → k < hi → hi ≤ length l → same (label (get_or l (k - 1) 0)) (label (get_or l k 0)) ≡ false
      → beside_from label (get_or l (k - 1) 0) (slice k hi l) ≡ beside_from label (get_or l k 0) (slice next hi l)
  beside_other k next hi n h i e = beside_turn k next hi n h i ∙ rw e

  pub beside_end : (lo hi : ℕ) → lo < hi → hi ≤ length l → beside_from label (get_or l lo 0) (slice (lo + 1) hi l) ≡ least_beside label (slice lo hi l)
  unfolding least_beside
  beside_end lo hi h i = rw (slice_more lo hi l h i)

  pub beside_over : (left k : ℕ) → length l ≤ k → beside_from label left (slice k (length l) l) ≡ nowhere
  unfolding beside_from
  beside_over left k h = rw (slice_over k l h)

  -- of the second on, if there are any, it is that of all
  pub beside_all : (k : ℕ) → (0 < length l → k ≡ 1) → beside_from label (get_or l (k - 1) 0) (slice k (length l) l) ≡ least_beside label l
  unfolding least_beside
  beside_all k second = elim (dec_lt 0 (length l)) [
    | yes h ↦ rw (second h) (beside_end 0 (length l) h (omega arith) ∙ ap (least_beside label) (slice_all l))
    | no h ↦
        beside_over (get_or l (k - 1) 0) k (omega arith)
        ∙ ap (least_beside label) (sym (slice_none 0 (length l) l (omega arith) (omega arith)) ∙ slice_all l)
  ]

  -- ---- each against those before it

  pub direct_start : (lo hi : ℕ) → repeat_from label (slice lo lo l) (slice lo hi l) ≡ first_repeat label (slice lo hi l)
  direct_start lo hi = rw (slice_none lo lo l (omega arith) (omega arith))

  one_more : (lo i : ℕ) → lo ≤ i → i < length l → slice lo (i + 1) l ≡ slice lo i l ++ get_or l i 0 ∷ []
  one_more lo i h k =
      slice_split lo i (i + 1) l h (omega arith) (omega arith)
      ∙ ap (λ (w : List ℕ). slice lo i l ++ w) (slice_more i (i + 1) l (omega arith) (omega arith) ∙ ap (λ (w : List ℕ). get_or l i 0 ∷ w) (slice_none (i + 1) (i + 1) l (omega arith) (omega arith)))

  pub direct_known : (lo i hi : ℕ) → i < hi → hi ≤ length l → known label (label (get_or l i 0)) (slice lo i l) ≡ true
      → repeat_from label (slice lo i l) (slice i hi l) ≡ found (get_or l i 0)
  unfolding repeat_from
  direct_known lo i hi h k e = rw (slice_more i hi l h k, e)

  pub direct_new : (lo i hi : ℕ) → lo ≤ i → i < hi → hi ≤ length l → known label (label (get_or l i 0)) (slice lo i l) ≡ false
      → repeat_from label (slice lo (i + 1) l) (slice (i + 1) hi l) ≡ repeat_from label (slice lo i l) (slice i hi l)
  unfolding repeat_from
  direct_new lo i hi g h k e = rw (slice_more i hi l h k, e, one_more lo i g (omega arith))

  pub direct_end : (lo hi : ℕ) → repeat_from label (slice lo hi l) (slice hi hi l) ≡ nowhere
  unfolding repeat_from
  direct_end lo hi = rw (slice_none hi hi l (omega arith) (omega arith))

-- ---- other labels

module _ (f g : ℕ → List ℕ) where
  -- they agree in the same places
  pub record Alike (ps : List ℕ) : Type 0 where
    pub there : (p q : ℕ) → each.Some (λ x. x ≡ p) ps → each.Some (λ x. x ≡ q) ps → f p ≡ f q → g p ≡ g q
    pub back : (p q : ℕ) → each.Some (λ x. x ≡ p) ps → each.Some (λ x. x ≡ q) ps → g p ≡ g q → f p ≡ f q

  module _ {ps : List ℕ} (a : Alike ps) where
    there_repeats : {p : ℕ} → Repeats f ps p → Repeats g ps p
    there_repeats {p} r = record { here = r.here; other = r.other; there = r.there; before = r.before; same = a.there r.other p r.there r.here r.same }

    back_repeats : {p : ℕ} → Repeats g ps p → Repeats f ps p
    back_repeats {p} r = record { here = r.here; other = r.other; there = r.there; before = r.before; same = a.back r.other p r.there r.here r.same }

    least_alike : (e : Earliest) → Least f ps e → Least g ps e
    least_alike nowhere m = λ p r. m p (back_repeats r)
    least_alike (found p) m = (there_repeats m.0, λ q r. m.1 q (back_repeats r))

    pub relabel : Climbs ps → first_repeat f ps ≡ first_repeat g ps
    relabel up = least_unique g ps (first_repeat f ps) (first_repeat g ps) (least_alike (first_repeat f ps) (first_least f up)) (first_least g up)

-- ---- what is found is one of the words

-- a word of a slice stands somewhere
pub record Stands (l : List ℕ) (lo hi p : ℕ) : Type 0 where
  pub at : ℕ
  pub from : lo ≤ at
  pub upto_end : at < hi
  pub is : get_or l at 0 ≡ p

pub in_slice : (n : ℕ) (l : List ℕ) (lo hi p : ℕ) → lo + n ≡ hi → hi ≤ length l → each.Some (λ x. x ≡ p) (slice lo hi l) → Stands l lo hi p
in_slice zero l lo hi p e h i = absurd (none (rw (slice_none lo hi l (omega arith) (omega arith)) at i) refl)
  where
    none : {ps : List ℕ} → each.Some (λ x. x ≡ p) ps → ps ≡ [] → ⊥
    none (each.here q) z = let o : ◌≡◌ {A = ℕ} 0 1 = cc in omega arith
    none (each.later q) z = let o : ◌≡◌ {A = ℕ} 0 1 = cc in omega arith
in_slice (suc n) l lo hi p e h i = go (rw (slice_more lo hi l (omega arith) h) at i) (λ j. in_slice n l (lo + 1) hi p (omega arith) h j)
  where
    go : each.Some (λ x. x ≡ p) (get_or l lo 0 ∷ slice (lo + 1) hi l) → (each.Some (λ x. x ≡ p) (slice (lo + 1) hi l) → Stands l (lo + 1) hi p) → Stands l lo hi p
    go (each.here q) f = record { at = lo; from = omega arith; upto_end = omega arith; is = q }
    go (each.later j) f = let s = f j in record { at = s.at; from = let g = s.from in omega arith; upto_end = s.upto_end; is = s.is }

module _ (label : ℕ → List ℕ) (l : List ℕ) (lo hi : ℕ) (r : hi ≤ length l) where
  -- one word or none repeats nothing
  pub few_none : lo ≤ hi → hi < lo + 2 → first_repeat label (slice lo hi l) ≡ nowhere
  unfolding repeat_from known
  few_none h k = elim (dec_le hi lo) [
    | yes e ↦ rw (slice_none lo hi l h e)
    | no e ↦ rw (slice_more lo hi l (omega arith) r, slice_none (lo + 1) hi l (omega arith) (omega arith))
  ]

  -- so it is less than what all words are less than
  pub found_less : (m p : ℕ) → lo ≤ hi → Climbs (slice lo hi l) → ((i : ℕ) → get_or l i 0 < m) → first_repeat label (slice lo hi l) ≡ found p → p < m
  found_less m p h up w e =
      let f : Least label (slice lo hi l) (found p) = rw e at (first_least label up) in
      let s = in_slice (hi - lo) l lo hi p (omega arith) r f.0.here in
      omega (arith, w s.at, s.is)

-- ---- labels that ascend

module _ (label : ℕ → List ℕ) where
  module _ (l : List ℕ) where
    pub ascend_start : ascend_from label (get_or l 0 0) (slice 1 (length l) l) ≡ ascending label l
    unfolding ascend_from ascending
    ascend_start = elim (dec_lt 0 (length l)) [
      | yes h ↦ sym (ap (ascending label) (sym (slice_all l) ∙ slice_more 0 (length l) l h (omega arith)))
      | no h ↦
          rw (slice_over 1 l (omega arith))
          (ap (ascending label) (sym (slice_none 0 (length l) l (omega arith) (omega arith)) ∙ slice_all l))
    ]

    turn : (i : ℕ) → i < length l
        → ascend_from label (get_or l (i - 1) 0) (slice i (length l) l) ≡ cond (before (label (get_or l (i - 1) 0)) (label (get_or l i 0))) (ascend_from label (get_or l i 0) (slice (i + 1) (length l) l)) false
    unfolding ascend_from
    turn i h = rw (slice_more i (length l) l h (omega arith))

    pub ascend_more : (i : ℕ) → i < length l → before (label (get_or l (i - 1) 0)) (label (get_or l i 0)) ≡ true
        → ascend_from label (get_or l i 0) (slice (i + 1) (length l) l) ≡ ascend_from label (get_or l (i - 1) 0) (slice i (length l) l)
    ascend_more i h e = sym (turn i h ∙ rw e)

    pub ascend_not : (i : ℕ) → i < length l → before (label (get_or l (i - 1) 0)) (label (get_or l i 0)) ≡ false
        → false ≡ ascend_from label (get_or l (i - 1) 0) (slice i (length l) l)
    ascend_not i h e = sym (turn i h ∙ rw e)

    pub ascend_end : (left i : ℕ) → length l ≤ i → true ≡ ascend_from label left (slice i (length l) l)
    unfolding ascend_from
    ascend_end left i h = rw (slice_over i l h)

  never : {A : Type 0} {b : Bool} → b ≡ true → b ≡ false → A
  never e f = let z : ◌≡◌ {A = ℕ} 0 1 = cc in absurd (omega arith)

  -- each is before all that follow it
  before_all : (x : ℕ) (ps : List ℕ) → ascend_from label x ps ≡ true → (q : ℕ) → each.Some (λ y. y ≡ q) ps → before (label x) (label q) ≡ true
  unfolding ascend_from
  before_all x [] e q i = elim i [ ]
  before_all x (p ∷ ps) e q i = go (before (label x) (label p)) refl e i (λ g j. before_all p ps g q j)
    where
      go : (b : Bool) → before (label x) (label p) ≡ b → cond b (ascend_from label p ps) false ≡ true → each.Some (λ y. y ≡ q) (p ∷ ps)
          → (ascend_from label p ps ≡ true → each.Some (λ y. y ≡ q) ps → before (label p) (label q) ≡ true) → before (label x) (label q) ≡ true
      go false f g i more = never g refl
      go true f g (each.here h) more = rw (← h) f
      go true f g (each.later j) more = before_trans (label x) (label p) (label q) f (more g j)

  rest_ascends : (x : ℕ) (ps : List ℕ) → ascend_from label x ps ≡ true → ascending label ps ≡ true
  unfolding ascend_from ascending
  rest_ascends x [] e = refl
  rest_ascends x (p ∷ ps) e = go (before (label x) (label p)) e
    where
      go : (b : Bool) → cond b (ascend_from label p ps) false ≡ true → ascend_from label p ps ≡ true
      go true g = g
      go false g = never g refl

  -- so no two are equal
  none_equal : (ps : List ℕ) → ascending label ps ≡ true → (p q : ℕ) → each.Some (λ x. x ≡ q) ps → each.Some (λ x. x ≡ p) ps → q < p → label q ≡ label p → ⊥
  unfolding ascending
  none_equal [] e p q x5 _ l s = elim x5 [ ]
  none_equal (x ∷ ps) e p q (each.here h) (each.here k) l s = omega arith
  none_equal (x ∷ ps) e p q (each.here h) (each.later k) l s =
      never (before_all x ps e p k) (ap (λ (n : ℕ). before (label n) (label p)) h ∙ ap (λ (w : List ℕ). before w (label p)) s ∙ before_irrefl (label p))
  none_equal (x ∷ ps) e p q (each.later h) (each.here k) l s =
      never (before_all x ps e q h) (ap (λ (n : ℕ). before (label n) (label q)) k ∙ ap (λ (w : List ℕ). before (label p) w) s ∙ before_irrefl (label p))
  none_equal (x ∷ ps) e p q (each.later h) (each.later k) l s = none_equal ps (rest_ascends x ps e) p q h k l s

  pub ascending_none : {ps : List ℕ} → Climbs ps → ascending label ps ≡ true → first_repeat label ps ≡ nowhere
  ascending_none {ps} up e =
      least_unique label ps (first_repeat label ps) nowhere (first_least label up) (λ p r. none_equal ps e p r.other r.there r.here r.before r.same)

-- ---- the first of some places climb too

some_take : {q : ℕ} (n : ℕ) (ps : List ℕ) → each.Some (λ x. x ≡ q) (take n ps) → each.Some (λ x. x ≡ q) ps
some_take {q = q} zero ps x' = elim x' [ ]
some_take {q = q} (suc n) [] x3 = elim x3 [ ]
some_take (suc n) (p ∷ ps) (each.here h) = each.here h
some_take (suc n) (p ∷ ps) (each.later i) = each.later (some_take n ps i)

pub climbs_take : (n : ℕ) {ps : List ℕ} → Climbs ps → Climbs (take n ps)
climbs_take zero c = up_none
climbs_take (suc n) up_none = up_none
climbs_take (suc n) (up_more {p} {ps} f c) = up_more {p = p} (λ q i. f q (some_take n ps i)) (climbs_take n c)
