-- A patched document is no longer and has no more values than the document and the PatchObject together (`bytes_together`, `values_together`). The
-- localized card is no longer than the card's text without white space (`room_enough`), so an output as long as the card text always has room; and it
-- has no more values than the card (`values_enough`).
-- Assumes nothing.
use mathlib.Core.Bool.{true, false}
use mathlib.Core.List.{List, [], ◌∷◌}
use mathlib.Core.Path.{◌≡◌, refl, ap}
use Prim.Native.Nat.{ℕ, suc, ◌+◌, max, ◌≤◌}
use native.Mathlib.Omega.{arith}
use lib.Dec.{eqb, ltb}
use lib.ListN.{length, length-append}
use Rattle.laws.proofs.Bools.{by_test}
use Rattle.text.specs.Doc.{Name, Doc, scalar, array, object, Members, empty, member, count_of, count_all}
use Rattle.text.specs.Distinct.{Distinct, DistinctMembers}
use Rattle.text.specs.Writing.{written, written_members, short_of, spelled_byte, spelled_bytes, spelled}
use Rattle.contact.specs.Pointer.{Pointer, last, down, last_part, push, split, plain, plain_parts, pointer_of}
use Rattle.contact.specs.Patch.{entries_of, applied}
use Rattle.contact.specs.Localize.{start, patched_doc}
use Rattle.contact.specs.Entries.{NoClash, ParentsThere}
use Rattle.contact.specs.Conditions.{PatchOf}
use Rattle.contact.proofs.Patching.Pointers.{plain_byte, plain_loose}
use Rattle.contact.proofs.Patching.Weigh.{Scale, weight, sum, KeysCover, patched_weight, weighs_less}

-- ---- the length of a text: an object's members take up their name, their value, a colon and a comma each

abbrev in_bytes : Scale
in_bytes = record {
  leaf = λ kind token. length token;
  list = λ ms. length (written (array ms));
  label = λ l. length l + 2;
  box = λ a. 1 + max 1 a;
  box_up = λ a b h. omega arith;
  box_slow = λ a k. omega arith;
  box_fast = λ a k b h. omega arith;
  box_holds = λ a. omega arith;
}

mutual
  length_is : (d : Doc) → length (written d) ≡ weight in_bytes d
  length_is (scalar kind token) = refl
  length_is (array ms) = refl
  length_is (object ms) = omega (arith, first_is ms)

  first_is : (ms : Members) → length (written_members ms true) ≡ max 1 (sum in_bytes ms)
  first_is empty = refl
  first_is (member n t d ms) = simp length-append (omega (arith, length_is d, sum_is ms))

  sum_is : (ms : Members) → length (written_members ms false) ≡ 1 + sum in_bytes ms
  sum_is empty = refl
  sum_is (member n t d ms) = simp length-append (omega (arith, length_is d, sum_is ms))

-- ---- the number of values

abbrev in_values : Scale
in_values = record {
  leaf = λ kind token. 1;
  list = λ ms. count_of (array ms);
  label = λ l. 0;
  box = λ a. suc a;
  box_up = λ a b h. omega arith;
  box_slow = λ a k. omega arith;
  box_fast = λ a k b h. omega arith;
  box_holds = λ a. omega arith;
}

mutual
  unfolding count_of

  count_is : (d : Doc) → count_of d ≡ weight in_values d
  count_is (scalar kind token) = refl
  count_is (array ms) = refl
  count_is (object ms) = omega (arith, count_all_is ms)

  count_all_is : (ms : Members) → count_all ms ≡ sum in_values ms
  count_all_is empty = refl
  count_all_is (member n t d ms) = omega (arith, count_is d, count_all_is ms)

-- ---- an added name is no longer than the key that it comes from

byte_some : (b : ℕ) → 1 ≤ length (spelled_byte b)
byte_some b =
    by_test (eqb (short_of b) 0)
    (λ x. by_test (ltb b 32) (λ y. rw (x, y) (omega arith)) (λ y. rw (x, y) (omega arith)))
    (λ x. rw x (omega arith))

-- the length of a name as it is spelled, without its quotes
abbrev spelled_length : Name → ℕ
spelled_length n = length (spelled_bytes n)

spelled_more : (b : ℕ) (n : Name) → spelled_length (b ∷ n) ≡ length (spelled_byte b) + spelled_length n
spelled_more b n = length-append (spelled_byte b) (spelled_bytes n)

plain_length : (bs : List ℕ) → spelled_length (plain bs) ≤ spelled_length bs
plain_length [] = omega arith
plain_length (b ∷ []) = omega arith
plain_length (b ∷ c ∷ bs) =
    by_test (eqb b 126)
    (λ x. by_test (eqb c 49)
    (λ y. rw (x, y) (omega (arith, plain_length bs, two)))
    (λ y. by_test (eqb c 48)
    (λ z. rw (x, y, z) (omega (arith, plain_length bs, two)))
    (λ z. omega (arith, ap spelled_length (plain_loose b c bs y z), spelled_more b (plain (c ∷ bs)), spelled_more b (c ∷ bs), plain_length (c ∷ bs)))))
    (λ x. omega (arith, ap spelled_length (plain_byte b (c ∷ bs) x), spelled_more b (plain (c ∷ bs)), spelled_more b (c ∷ bs), plain_length (c ∷ bs)))
  where
    two : 2 + spelled_length bs ≤ spelled_length (b ∷ c ∷ bs)
    two = omega (arith, spelled_more b (c ∷ bs), spelled_more c bs, byte_some b, byte_some c)

push_tail : (b : ℕ) (p : Pointer) → spelled_length (last_part (push b p)) ≤ length (spelled_byte b) + spelled_length (last_part p)
push_tail b (last n) = omega (arith, spelled_more b n)
push_tail b (down n p) = omega arith

split_length : (bs : List ℕ) → spelled_length (last_part (split bs)) ≤ spelled_length bs
split_length [] = omega arith
split_length (b ∷ bs) =
    by_test (eqb b 47)
    (λ x. rw x (omega (arith, spelled_more b bs, split_length bs)))
    (λ x. rw x (omega (arith, spelled_more b bs, push_tail b (split bs), split_length bs)))

last_plain : (p : Pointer) → last_part (plain_parts p) ≡ plain (last_part p)
last_plain (last n) = refl
last_plain (down n p) = last_plain p

key_length : (key : Name) → length (spelled (last_part (pointer_of key))) ≤ length (spelled key)
key_length key =
    omega (
      arith,
      ap spelled_length (last_plain (split key)),
      plain_length (last_part (split key)),
      split_length key,
      length-append (34 ∷ spelled_bytes key) (34 ∷ []),
      length-append (34 ∷ spelled_bytes (last_part (pointer_of key))) (34 ∷ []),
    )

-- each name is written at least as long as its shortest spelling, as every name that a text has
abbrev pub LongEnough : Members → Type 0
LongEnough empty = Prim.Unit {0}
LongEnough (member n label d ms) = (length (spelled n) ≤ length label) × LongEnough ms

keys_cover : (ms : Members) → LongEnough ms → KeysCover in_bytes ms
keys_cover empty h = tt
keys_cover (member n t d ms) h = (omega (arith, h.0, key_length n), keys_cover ms h.1)

values_cover : (ms : Members) → KeysCover in_values ms
values_cover empty = tt
values_cover (member n t d ms) = (omega arith, values_cover ms)

-- ---- the theorems

-- of a document and the members of a PatchObject
module _ (d : Doc) (ms : Members) (dd : Distinct d) (dm : DistinctMembers ms) (nc : NoClash (entries_of ms)) (pt : ParentsThere (entries_of ms) d) where
  pub bytes_together : LongEnough ms → length (written (applied d (entries_of ms))) ≤ length (written d) + length (written (object ms))
  bytes_together h =
      omega (
        arith,
        length_is (applied d (entries_of ms)),
        length_is d,
        length_is (object ms),
        patched_weight in_bytes d ms (keys_cover ms h) dd dm nc pt,
      )

  pub values_together : count_of (applied d (entries_of ms)) ≤ count_of d + count_all ms
  values_together =
      omega (arith, count_is (applied d (entries_of ms)), count_is d, count_all_is ms, patched_weight in_values d ms (values_cover ms) dd dm nc pt)

-- of a card, whose text has the PatchObject in it
module _ (card : Doc) (lang : Name) (ms : Members) (patch : PatchOf card lang ms)
    (dc : Distinct card) (nc : NoClash (entries_of ms)) (pt : ParentsThere (entries_of ms) (start card)) where
  pub room_enough : LongEnough ms → length (written (patched_doc card ms)) ≤ length (written card)
  room_enough h =
      omega (
        arith,
        length_is (patched_doc card ms),
        length_is card,
        weighs_less in_bytes card lang ms patch (keys_cover ms h) dc nc pt,
      )

  pub values_enough : count_of (patched_doc card ms) ≤ count_of card
  values_enough =
      omega (
        arith,
        count_is (patched_doc card ms),
        count_is card,
        weighs_less in_values card lang ms patch (values_cover ms) dc nc pt,
      )
