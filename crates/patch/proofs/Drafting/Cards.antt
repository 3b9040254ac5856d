-- A card whose rows are in the table:
--     card-held          it stands there from row 0 on, in no more rows than a card can have
--     card-countable     what the entries of its PatchObject make of it is short enough to be counted
--     for-none, for-nothing, for-other, for-object     what it has for a language: no localizations, nothing, no object, or a PatchObject
-- Assumes nothing.
use Rattle.std.specs.Prelude.{Option, Some, None, Result, Err}
use Rattle.contact.specs.declared.LocalRefusal.{LocalRefusal}
use Prim.Native.Nat.{ℕ}
use mathlib.Core.Path.{◌≡◌, refl, sym, ap, ◌∙◌}
use mathlib.Core.List.{List, []}
use mathlib.Core.Bool.{true}
use mathlib.Core.Option.{none, some}
use native.Mathlib.Omega.{arith}
use lib.ListN.{length}
use Rattle.text.specs.Limits.{base}
use Rattle.text.specs.Text.{bytes}
use Rattle.text.specs.Tree.{Forest}
use Rattle.text.specs.Firsts.{HasFirst, inside_at}
use Rattle.text.specs.Doc.{Name, Doc, scalar, array, object, kind_of, Members, property, members_of, doc_of}
use Rattle.text.specs.Reader.{good}
use Rattle.text.specs.Whole.{read_of}
use Rattle.text.specs.Distinct.{Distinct}
use Rattle.text.specs.Promised.{Promised}
use Rattle.text.proofs.Promise.{promised, whole_good, placed_kinds, doc_object}
use Rattle.contact.specs.Pointer.{find}
use Rattle.contact.specs.Localize.{patch_at}
use Rattle.contact.specs.Conditions.{PatchOf}
use Rattle.contact.specs.declared.LocalRefusal.TheVariants.{NoLanguage}
use Rattle.contact.specs.Places.{key_place}
use Rattle.contact.proofs.Judging.{judging}
use Rattle.contact.proofs.Patching.Distinct.{find_distinct}
use Rattle.contact.proofs.Patching.Readback.{card_shorter}
use Rattle.json_reader.specs.Rows.{kind_in}
use Rattle.json_reader.specs.Lookup.{first_member, from_name}
use Rattle.patch.specs.Children.{Held, ChildAt, ChildFound}
use Rattle.patch.specs.Entries.{most_entries}
use Rattle.patch.specs.Marks.{ShortKeys}
use Rattle.patch.specs.Patched.{BaseAt}
use Rattle.patch.specs.Drafts.{refusal, value_draft, entries_draft, draft_of, CardIn, Countable, Drafted, Makes, MakesFor}
use Rattle.patch.proofs.Putting.Walks.{value_row}
use Rattle.patch.proofs.Putting.Leaving.{leaves_found}
use Rattle.patch.proofs.Drafting.Children.{value_kind, inside_few, no_patch_in, no_patch_within, patch_is, patch_place}

module _ {t table : List ℕ} {f : Forest} (c : CardIn t table f) where
  -- it was read
  card_read : (to : ℕ) × (read_of base t ≡ good f to)
  card_read =
      let (to, w, keeps) = (judging.accepted base (length table) t f).0 c.passes in
      (to, (whole_good base (length table) t f to w).read)

  card_promised : Promised base t f
  card_promised = promised base t f card_read.0 card_read.1

  card_distinct : Distinct (doc_of t f)
  card_distinct = card_promised.distinct refl

  card_held : Held table most_entries 0 f
  card_held =
      let p = card_promised in
      record {
        value = record { some = p.some; kinds = placed_kinds p.placed; stands = c.rows };
        within = omega (arith, p.few);
      }

  -- its localizations are the member of that name
  card_base : {m : ℕ} → ChildAt t table most_entries 0 (bytes "localizations") f m → BaseAt t table m 0 true f
  card_base {m} a =
      let named : HasFirst (from_name t (bytes "localizations") (inside_at f)) = rw a.place.first at a.place.some_found in
      record {
        value = card_held.value;
        out =
            leaves_found t m 1 (inside_at f) (rw a.whole at card_distinct) named
            (rw a.place.first at a.place.stands.ends);
        distinct = card_distinct;
        few = omega (arith, inside_few card_held, (value_row card_held.value).below);
      }

  card_short : ShortKeys t
  card_short = omega (arith, card_promised.short)

  card_countable : (lang : Name) (ms : Members) → PatchOf (doc_of t f) lang ms → Countable (doc_of t f) ms
  card_countable lang ms patch nc pt =
      let p = card_promised in
      omega (arith, card_shorter base refl (length table) t f c.passes lang ms patch nc pt, p.short)

-- ---- what the card has for a language

none_draft : (place : Name → ℕ) (card : Doc) (lang : Name) → find (patch_at lang) card ≡ none → draft_of place card lang ≡ refusal NoLanguage []
unfolding draft_of
none_draft place card lang e = rw e

other_draft : (place : Name → ℕ) (card d : Doc) → (kind_of d ≡ 7 → ⊥) → value_draft place card d ≡ refusal NoLanguage []
other_draft place card (scalar kind token) h = refl
other_draft place card (array ms) h = refl
other_draft place card (object ms) h = absurd (h refl)

module _ {t table : List ℕ} {f : Forest} (lang : Name) {m k : ℕ} (a : ChildAt t table most_entries 0 (bytes "localizations") f m)
    (b : ChildAt t table most_entries m lang a.place.found k) where
  abbrev places : Name → ℕ
  places = key_place t f lang

  value_draft_lem : draft_of places (doc_of t f) lang ≡ value_draft places (doc_of t f) (doc_of t b.place.found)
  unfolding draft_of
  value_draft_lem = rw (patch_is lang a b)

  no_object_for : (kind_in table k ≡ 7 → ⊥) → draft_of places (doc_of t f) lang ≡ refusal NoLanguage []
  no_object_for h = value_draft_lem ∙ other_draft places (doc_of t f) (doc_of t b.place.found) (λ e. h (sym (value_kind b.held.value t) ∙ e))

  abbrev in_patch : Members
  in_patch = members_of t (inside_at b.place.found)

  module _ (seven : kind_in table k ≡ 7) where
    is_object : doc_of t b.place.found ≡ object in_patch
    is_object = let v = b.held.value in doc_object t b.place.found v.some v.kinds (sym (value_row v).kind ∙ seven)

    object_for : draft_of places (doc_of t f) lang ≡ entries_draft places (doc_of t f) in_patch
    object_for = value_draft_lem ∙ ap (value_draft places (doc_of t f)) is_object

    -- it is the PatchObject of the language
    patch_for : PatchOf (doc_of t f) lang in_patch
    patch_for =
        let label = (first_member t b.place.found).label in
        record { label = label; stands = patch_is lang a b ∙ ap (λ (d : Doc). some (property label d)) is_object }

    made_for : CardIn t table f → (old new : List ℕ) (r : Result ℕ LocalRefusal) → Makes t table m t table k old new r → Drafted (draft_of places (doc_of t f) lang) old new r
    made_for c old new r made =
        let p = patch_for in
        rw object_for
        (made places f b.place.found (card_base c a) b.held
        (find_distinct (patch_at lang) (doc_of t f) (property p.label (object in_patch)) (card_distinct c) p.stands)
        (λ key has. patch_place lang a b key) (card_short c) (card_countable c lang in_patch p))

-- by the rows that were found: of the localizations, and in them of what the language has
module _ {t table : List ℕ} (lang : Name) {all : (Option ℕ)}
    (first : (g : Forest) (limit : ℕ) → Held table limit 0 g → ChildFound t table limit 0 (bytes "localizations") g all) where
  pub for_none : (old : List ℕ) → all ≡ None → MakesFor t table lang old old (Err NoLanguage)
  for_none old e f c =
      rw (none_draft (key_place t f lang) (doc_of t f) lang (no_patch_in lang (doc_of t f) (rw e at (first f most_entries (card_held c))))) (refl, refl)

  module _ {m : ℕ} (e : all ≡ Some m) where
    in_all : {f : Forest} → CardIn t table f → ChildAt t table most_entries 0 (bytes "localizations") f m
    in_all {f} c = rw e at (first f most_entries (card_held c))

    module _ (found : Option ℕ) (second : (g : Forest) (limit : ℕ) → Held table limit m g → ChildFound t table limit m lang g found) where
      -- what is said of their value
      in_it : {f : Forest} (c : CardIn t table f) → ChildFound t table most_entries m lang (in_all c).place.found found
      in_it c = second (in_all c).place.found most_entries (in_all c).held

      pub for_nothing : (old : List ℕ) → found ≡ None → MakesFor t table lang old old (Err NoLanguage)
      for_nothing old q f c =
          rw (none_draft (key_place t f lang) (doc_of t f) lang (no_patch_within lang (in_all c) (rw q at (in_it c)))) (refl, refl)

      module _ {k : ℕ} (q : found ≡ Some k) where
        at_it : {f : Forest} (c : CardIn t table f) → ChildAt t table most_entries m lang (in_all c).place.found k
        at_it c = rw q at (in_it c)

        pub for_other : (old : List ℕ) → (kind_in table k ≡ 7 → ⊥) → MakesFor t table lang old old (Err NoLanguage)
        for_other old h f c = rw (no_object_for lang (in_all c) (at_it c) h) (refl, refl)

        pub for_object : (old new : List ℕ) (r : Result ℕ LocalRefusal) → kind_in table k ≡ 7 → Makes t table m t table k old new r → MakesFor t table lang old new r
        for_object old new r h made f c = made_for lang (in_all c) (at_it c) h c old new r made
