-- In the list of what all types have, what one type has stands together, from its start up to the next one's. Assumes nothing.
use mathlib.Core.Path.{◌≡◌, refl, sym, ap, subst, ◌∙◌}
use mathlib.Core.List.{List, [], ◌∷◌}
use Prim.Native.Nat.{ℕ, zero, suc, ◌+◌, ◌<◌, ◌≤◌}
use native.Mathlib.Omega.{arith}
use native.Mathlib.Numerals.{add-one}
use lib.ListN.{length, get_or, length-append, get_or-append, get_or-eq_default}
use lib.Seq.{get_or-append-add}
use lib.Dec.{ltb}
use borrow.Author.Tests.{ltb-true, ltb-false}
use Rattle.laws.proofs.Bools.{by_test}
use Rattle.contact.specs.Schema.{ObjectType, TypeRecord, types, no_type, record_of}
use Rattle.card.specs.Catalog.{gathered, start_of, OwnPart, type_count, name_place}

-- ---- places of types

pub types_length : length types ≡ type_count
unfolding types
types_length = refl

pub place_within : (o : ObjectType) → name_place o ≤ type_count
place_within o = by_test (ltb type_count o) (λ e. rw e (omega arith)) (λ e. rw e (ltb-false type_count o e))

-- a type's place has its record
pub place_record : (o : ObjectType) → record_of (name_place o) ≡ record_of o
unfolding record_of
place_record o =
    by_test (ltb type_count o)
    (λ e. rw e (get_or-eq_default types no_type {n = type_count} (omega (arith, types_length))
    ∙ sym (get_or-eq_default types no_type {n = o} (omega (arith, types_length, ltb-true type_count o e)))))
    (λ e. rw e)

-- ---- starts

module _ {A : Type 0} (part : TypeRecord → List A) (bare : part no_type ≡ []) (d : A) where
  start_zero : (rs : List TypeRecord) → start_of part rs 0 ≡ 0
  unfolding start_of
  start_zero [] = refl
  start_zero (r ∷ rs) = refl

  start_next : (rs : List TypeRecord) (o : ObjectType) → start_of part rs (suc o) ≡ start_of part rs o + length (part (get_or rs o no_type))
  unfolding start_of
  start_next [] o = rw bare
  start_next (r ∷ rs) zero = rw (start_zero rs) (omega arith)
  start_next (r ∷ rs) (suc o) = omega (arith, start_next rs o)

  start_within : (rs : List TypeRecord) (o : ObjectType) → start_of part rs o ≤ length (gathered part rs)
  unfolding start_of gathered
  start_within [] o = omega arith
  start_within (r ∷ rs) zero = omega arith
  start_within (r ∷ rs) (suc o) = omega (arith, start_within rs o, length-append (part r) (gathered part rs))

  at_start : (rs : List TypeRecord) (o : ObjectType) (j : ℕ) → j < length (part (get_or rs o no_type))
      → get_or (gathered part rs) (start_of part rs o + j) d ≡ get_or (part (get_or rs o no_type)) j d
  unfolding start_of gathered
  at_start [] o j h = let none : length (part no_type) ≡ 0 = ap length bare in absurd (omega (arith, none))
  at_start (r ∷ rs) zero j h =
      let z : 0 + j ≡ j = omega arith in rw z (get_or-append (part r) (gathered part rs) d j h)
  at_start (r ∷ rs) (suc o) j h =
      let q : length (part r) + start_of part rs o + j ≡ length (part r) + (start_of part rs o + j) = omega arith in
      rw q (get_or-append-add (part r) (gathered part rs) (start_of part rs o + j) d ∙ at_start rs o j h)

  -- what a type has stands from its start up to the next
  from_start : (o : ObjectType) → OwnPart (gathered part types) (part (record_of o)) d (start_of part types o) (start_of part types (o + 1))
  unfolding record_of
  from_start o =
      record {
        size = rw add-one (start_next types o);
        within = start_within types (o + 1);
        is = at_start types o;
      }

  -- the same from the numbers that the starts are
  own_part : (o : ObjectType) {first last : ℕ} → first ≡ start_of part types (name_place o) → last ≡ start_of part types (name_place o + 1)
      → OwnPart (gathered part types) (part (record_of o)) d first last
  own_part o p q =
      rw (p, q) (subst (λ (r : TypeRecord). OwnPart (gathered part types) (part r) d (start_of part types (name_place o)) (start_of part types (name_place o + 1)))
      (place_record o) (from_start (name_place o)))

  -- and from the list of numbers that has the starts from a place on
  pub span_part : (numbers : List ℕ) (starts : ℕ) → ((k : ℕ) → k < type_count + 2 → get_or numbers (starts + k) 0 ≡ start_of part types k) → (o : ObjectType)
      → OwnPart (gathered part types) (part (record_of o)) d (get_or numbers (starts + name_place o) 0) (get_or numbers (starts + name_place o + 1) 0)
  span_part numbers starts start o =
      let h = place_within o in
      let e : starts + name_place o + 1 ≡ starts + (name_place o + 1) = omega arith in
      rw e (own_part o (start (name_place o) (omega arith)) (start (name_place o + 1) (omega arith)))
