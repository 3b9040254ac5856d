-- The names of an object's members and the places of their fields go together (`named`), so the object has a name twice exactly if one of the places has the
-- name of an earlier one: `repeats_there`. Assumes nothing.
use mathlib.Core.Path.{◌≡◌, refl, ap, ◌∙◌}
use mathlib.Core.List.{List, [], ◌∷◌, ◌++◌, append_assoc}
use mathlib.Core.Bool.{Bool, true, false, cond}
use mathlib.Core.Option.{some}
use Prim.Native.Nat.{ℕ, ◌+◌}
use native.Mathlib.Omega.{arith}
use lib.ListN.{length, drop, length-append}
use borrow.Author.Tests.{eq-eqb}
use Rattle.laws.specs.Order.{same}
use Rattle.laws.specs.Earliest.{found, known, repeat_from, first_repeat}
use Rattle.laws.proofs.Orders.{same_sym}
use Rattle.text.specs.Tree.{curly}
use Rattle.text.specs.Doc.{Name, Doc, object, Members, empty, member, property, seek, is_there, kind_of}
use Rattle.packing.specs.Packed.{field_of, packed, packed_items}
use Rattle.packing.proofs.Widest.{inner, packed_field, packed_length}
use Rattle.fields.specs.Survey.{next_at, name_at, member_places, is_found, repeats_at}
use Rattle.fields.proofs.Members.{places_none, places_more}
use Rattle.fields.proofs.Heads.{tag_there, next_there, content_there, rest_there, name_there}

-- ---- an earlier one, and a later one

module _ (label : ℕ → List ℕ) where
  -- has one of these places the label of a later one?
  abbrev pub later_in : List ℕ → Bool
  later_in [] = false
  later_in (k ∷ ks) = let more = later_in ks in cond (known label (label k) ks) true more

  -- has one of them the label of one that was seen?
  abbrev crossing : (seen : List ℕ) → List ℕ → Bool
  crossing seen [] = false
  crossing seen (k ∷ ks) = let more = crossing seen ks in cond (known label (label k) seen) true more

  known_end : (name seen : List ℕ) (k : ℕ) → known label name (seen ++ k ∷ []) ≡ cond (known label name seen) true (same (label k) name)
  unfolding known
  known_end name [] k = go (same (label k) name)
    where
      go : (b : Bool) → cond b true false ≡ b
      go true = refl
      go false = refl
  known_end name (j ∷ seen) k = rw (known_end name seen k) (go (same (label j) name) (known label name seen))
    where
      go : (a b : Bool) → cond a true (cond b true (same (label k) name)) ≡ cond (cond a true b) true (same (label k) name)
      go true b = refl
      go false b = refl

  crossing_more : (seen : List ℕ) (k : ℕ) (ks : List ℕ) → crossing (seen ++ k ∷ []) ks ≡ cond (crossing seen ks) true (known label (label k) ks)
  unfolding known
  crossing_more seen k [] = refl
  crossing_more seen k (j ∷ ks) =
      rw (known_end (label j) seen k, crossing_more seen k ks, same_sym (label j) (label k))
      (go (known label (label j) seen) (same (label j) (label k)) (crossing seen ks) (known label (label k) ks))
    where
      go : (a s c k : Bool) → cond (cond a true s) true (cond c true k) ≡ cond (cond a true c) true (cond s true k)
      go true s c k = refl
      go false true true k = refl
      go false true false k = refl
      go false false c k = refl

  found_from : (seen ks : List ℕ) → is_found (repeat_from label seen ks) ≡ cond (crossing seen ks) true (later_in ks)
  unfolding repeat_from
  found_from seen [] = refl
  found_from seen (k ∷ ks) =
      split (known label (label k) seen)
      ∙ ap (cond (known label (label k) seen) true) (found_from (seen ++ k ∷ []) ks ∙ ap (λ (b : Bool). cond b true (later_in ks)) (crossing_more seen k ks))
      ∙ go (known label (label k) seen) (crossing seen ks) (known label (label k) ks) (later_in ks)
    where
      split : (a : Bool) → is_found (cond a (found k) (repeat_from label (seen ++ k ∷ []) ks)) ≡ cond a true (is_found (repeat_from label (seen ++ k ∷ []) ks))
      split true = refl
      split false = refl

      go : (a c k l : Bool) → cond a true (cond (cond c true k) true l) ≡ cond (cond a true c) true (cond k true l)
      go true c k l = refl
      go false true k l = refl
      go false false k l = refl

  crossing_none : (ks : List ℕ) → crossing [] ks ≡ false
  unfolding known
  crossing_none [] = refl
  crossing_none (k ∷ ks) = crossing_none ks

  pub first_later : (ks : List ℕ) → is_found (first_repeat label ks) ≡ later_in ks
  first_later ks = found_from [] ks ∙ rw (crossing_none ks)

-- ---- places and members

-- these places have the names of these members
pub data Named (p : List ℕ) : List ℕ → Members → Type 0 where
  none : Named p [] empty
  more : {k : ℕ} {ks : List ℕ} {n : Name} {label : List ℕ} {d : Doc} {ms : Members} → name_at p k ≡ n → Named p ks ms → Named p (k ∷ ks) (member n label d ms)

pub named : (p : List ℕ) (ms : Members) (at end : ℕ) (rest : List ℕ) → drop at p ≡ packed_items ms curly ++ rest → end ≡ at + length (packed_items ms curly)
    → Named p (member_places p at end) ms
named p empty at end rest e l = rw (places_none p end at (omega arith)) none
named p (member n label d ms) at end rest e l =
    let after = packed d ++ packed_items ms curly in
    let h : drop at p ≡ field_of 8 n ++ (after ++ rest) = e ∙ append_assoc (field_of 8 n) after rest in
    let v = at + 3 + length n in
    let f : drop v p ≡ field_of (kind_of d) (inner d) ++ (packed_items ms curly ++ rest) =
    rest_there p at 8 n (after ++ rest) h ∙ append_assoc (packed d) (packed_items ms curly) rest ∙ ap (λ (w : List ℕ). w ++ (packed_items ms curly ++ rest)) (packed_field d) in
    let next : next_at p (next_at p at) ≡ v + 3 + length (inner d) =
    ap (next_at p) (next_there p at 8 n (after ++ rest) h) ∙ next_there p v (kind_of d) (inner d) (packed_items ms curly ++ rest) f in
    let i = length-append (field_of 8 n) after in
    let j = length-append (packed d) (packed_items ms curly) in
    let m = packed_length d in
    rw (places_more p end at (omega arith), next)
    (more (name_there p at 8 n (after ++ rest) h)
    (named p ms (v + 3 + length (inner d)) end rest (rest_there p v (kind_of d) (inner d) (packed_items ms curly ++ rest) f) (omega arith)))

-- ---- a name twice

-- has a member the name of a later one?
abbrev pub repeats_some : Members → Bool
repeats_some empty = false
repeats_some (member n label d ms) = let later = repeats_some ms in cond (is_there (seek n ms)) true later

module _ (p : List ℕ) where
  known_seek : (name : Name) {ks : List ℕ} {ms : Members} → Named p ks ms → known (name_at p) name ks ≡ is_there (seek name ms)
  unfolding known
  known_seek name none = refl
  known_seek name (more {k} {ks} {n} {label} {d} {ms} e h) = rw (e, known_seek name h) (go (same n name))
    where
      go : (b : Bool) → cond b true (is_there (seek name ms)) ≡ is_there (cond b (some (property label d)) (seek name ms))
      go true = refl
      go false = refl

  later_repeats : {ks : List ℕ} {ms : Members} → Named p ks ms → later_in (name_at p) ks ≡ repeats_some ms
  later_repeats none = refl
  later_repeats (more {k} {ks} {n} {label} {d} {ms} e h) = rw (e, known_seek n h, later_repeats h)

  pub repeats_there : (ms : Members) (at : ℕ) (rest : List ℕ) → drop at p ≡ packed (object ms) ++ rest → repeats_at p at ≡ repeats_some ms
  unfolding repeats_at
  repeats_there ms at rest e =
      rw (eq-eqb _ _ (tag_there p at 7 (packed_items ms curly) rest e), next_there p at 7 (packed_items ms curly) rest e)
      (first_later (name_at p) (member_places p (at + 3) (at + 3 + length (packed_items ms curly)))
      ∙ later_repeats (named p ms (at + 3) (at + 3 + length (packed_items ms curly)) rest (content_there p at 7 (packed_items ms curly) rest e) refl))
