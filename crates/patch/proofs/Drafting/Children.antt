-- A member of the value at a row, and the PatchObject of a language:
--     no-child, child-is           a value that is no object has no member; the search inside an object finds its member
--     inside-few                   no more rows are inside a value than a card can have
--     most-few, counted-few        how many members it has
--     no-patch-in, no-patch-within, patch-is     the PatchObject is a member of a member of the card
--     patch-place                  where its keys stand
-- Assumes nothing.
use Rattle.std.specs.Prelude.{Option, Some, None}
use Prim.Native.Nat.{ℕ, ◌+◌, ◌≤◌}
use mathlib.Core.Path.{◌≡◌, refl, sym, ap, ◌∙◌}
use mathlib.Core.List.{List}
use mathlib.Core.Option.{none, some}
use native.Mathlib.Omega.{arith}
use Rattle.laws.specs.Order.{same}
use Rattle.laws.proofs.Bools.{by_test}
use Rattle.text.specs.Text.{bytes}
use Rattle.text.specs.Strings.{name_of}
use Rattle.text.specs.Tree.{Forest, size}
use Rattle.text.specs.Tree as T
use Rattle.text.specs.Firsts.{HasFirst, inside_at}
use Rattle.text.specs.Standing.{StandsTo}
use Rattle.text.specs.Doc.{Name, Doc, scalar, array, object, kind_of, doc_of}
use Rattle.text.proofs.Promise.{inside, doc_kind, doc_object}
use Rattle.json_reader.specs.Rows.{kind_in, below_in}
use Rattle.contact.specs.Pointer.{child, within, find, last}
use Rattle.contact.specs.Localize.{patch_at}
use Rattle.contact.specs.Places.{inside_named, quote_of, key_place}
use Rattle.json_reader.specs.Lookup.{KnownAt, first_member, from_name, Finds}
use Rattle.patch.specs.Entries.{most_entries, width}
use Rattle.patch.specs.Drafts.{EntriesUpTo}
use Rattle.patch.specs.Children.{Held, ChildAt, ChildFound}
use Rattle.json_reader.proofs.Seeking.{inside_kinds, members_stand}
use Rattle.patch.proofs.Putting.Walks.{value_row}

child_none : (n : Name) (d : Doc) → (kind_of d ≡ 7 → ⊥) → child n d ≡ none
child_none n (scalar kind token) h = refl
child_none n (array ms) h = refl
child_none n (object ms) h = absurd (h refl)

module _ {table : List ℕ} {row : ℕ} {g : Forest} (v : KnownAt table row g) where
  pub value_kind : (t : List ℕ) → kind_of (doc_of t g) ≡ kind_in table row
  value_kind t = doc_kind t g v.some ∙ sym (value_row v).kind

  module _ (t : List ℕ) (n : Name) where
    pub no_child : (kind_in table row ≡ 7 → ⊥) → child n (doc_of t g) ≡ none
    no_child h = child_none n (doc_of t g) (λ e. h (sym (value_kind t) ∙ e))

-- what is inside a value ends before the values that follow it
inside_size : (g : Forest) → HasFirst g → 1 + size (inside_at g) ≤ size g
unfolding size
inside_size T.none s = absurd s
inside_size (T.leaf kind ns ne from to rest) s = omega arith
inside_size (T.node b ns ne from to inside rest) s = omega arith

module _ {table : List ℕ} {limit row : ℕ} {g : Forest} (h : Held table limit row g) (t : List ℕ) (n : Name) where
  pub child_is : kind_in table row ≡ 7 → (r : Option ℕ) → Finds t table (row + 1 + below_in table row) n (inside_at g) r → ChildFound t table limit row n g r
  child_is e None f = rw (doc_object t g h.value.some h.value.kinds (sym (value_row h.value).kind ∙ e)) f
  child_is e (Some m) f =
      let v = h.value in
      record {
        whole = doc_object t g v.some v.kinds (sym (value_row v).kind ∙ e);
        place = rw (value_row v).below at f;
        held =
            record {
              value = record { some = f.some_found; kinds = f.kinds (inside_kinds g v.kinds); stands = f.stands.stands };
              within = omega (arith, f.stands.ends, h.within, inside_size g v.some, (value_row v).below);
            };
      }

-- no more rows are inside a value than a card can have
pub inside_few : {table : List ℕ} {row : ℕ} {g : Forest} → Held table most_entries row g → row + 1 + below_in table row ≤ most_entries
inside_few {g = g} h = let v = h.value in omega (arith, h.within, inside_size g v.some, (value_row v).below)

-- ---- how many members it has

width_size : (f : Forest) → width f ≤ size f
unfolding size
width_size T.none = omega arith
width_size (T.leaf kind ns ne from to rest) = omega (arith, width_size rest)
width_size (T.node b ns ne from to inside rest) = omega (arith, width_size rest)

-- a card can have no more
pub most_few : {table : List ℕ} {patch : ℕ} → EntriesUpTo table patch most_entries
most_few p h = let v = h.value in omega (arith, inside_few h, (value_row v).below, width_size (inside_at p))

-- they were counted
pub counted_few : {table : List ℕ} {patch end n most : ℕ} → end ≡ patch + 1 + below_in table patch
    → ((f : Forest) → StandsTo table (patch + 1) end f → n ≡ width f) → n ≤ most → EntriesUpTo table patch most
counted_few e count le p h = let v = h.value in omega (arith, count (inside_at p) (members_stand v.some v.stands e))

-- ---- the PatchObject

inside_named_lem : (t : List ℕ) (n : Name) (g : Forest) → inside_named t n g ≡ inside_at (from_name t n g)
unfolding inside_named from_name
inside_named_lem t n T.none = refl
inside_named_lem t n (T.leaf kind ns ne from to rest) = by_test (same (name_of t ns ne) n) (λ e. rw e) (λ e. rw e (inside_named_lem t n rest))
inside_named_lem t n (T.node b ns ne from to inside rest) = by_test (same (name_of t ns ne) n) (λ e. rw e) (λ e. rw e (inside_named_lem t n rest))

pub no_patch_in : (lang : Name) (card : Doc) → child (bytes "localizations") card ≡ none → find (patch_at lang) card ≡ none
no_patch_in lang card e = ap (within (find (last lang))) e

module _ {t table : List ℕ} {limit : ℕ} (lang : Name) {f : Forest} {m : ℕ} (a : ChildAt t table limit 0 (bytes "localizations") f m) where
  -- it is looked for in what was found
  patch_within : find (patch_at lang) (doc_of t f) ≡ child lang (doc_of t a.place.found)
  patch_within = ap (within (find (last lang))) (ap (child (bytes "localizations")) a.whole ∙ a.place.is)

  pub no_patch_within : child lang (doc_of t a.place.found) ≡ none → find (patch_at lang) (doc_of t f) ≡ none
  no_patch_within e = patch_within ∙ e

  -- it is found there
  module _ {k : ℕ} (b : ChildAt t table limit m lang a.place.found k) where
    pub patch_is : find (patch_at lang) (doc_of t f) ≡ some (first_member t b.place.found)
    patch_is = patch_within ∙ ap (child lang) b.whole ∙ b.place.is

    pub patch_place : (key : Name) → key_place t f lang key ≡ quote_of t key (inside_at b.place.found)
    unfolding key_place
    patch_place key =
        let languages = inside_named_lem t (bytes "localizations") (inside_at f) ∙ ap inside_at (sym a.place.first) in
        let entries = inside_named_lem t lang (inside_at a.place.found) ∙ ap inside_at (sym b.place.first) in
        ap (quote_of t key) (ap (inside_named t lang) languages ∙ entries)
