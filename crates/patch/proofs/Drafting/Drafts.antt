-- What a draft says of localizing, and that a contract allows one outcome:
--     localized-draft     27 and 28 are asked of the draft
--     one-outcome         two outcomes that writing the card of a language allows are equal
-- Assumes nothing.
use Rattle.std.specs.Prelude.{Result}
use Rattle.contact.specs.declared.LocalRefusal.{LocalRefusal}
use Prim.Native.Nat.{ℕ}
use mathlib.Core.Path.{◌≡◌, refl, sym, ap, ◌∙◌}
use mathlib.Core.List.{List}
use mathlib.Core.Option.{Option, none, some}
use Rattle.text.specs.Limits.{Limits}
use Rattle.text.specs.Tree.{Forest}
use Rattle.text.specs.Doc.{Name, Doc, scalar, array, object, Members, Property, doc_of}
use Rattle.text.specs.Writing.{written}
use Rattle.contact.specs.Pointer.{find}
use Rattle.contact.specs.Patch.{entries_of}
use Rattle.contact.specs.Faults.{PatchFault, all_kept, broken_by}
use Rattle.contact.specs.Places.{key_place}
use Rattle.contact.specs.Localize.{start, patch_at, patched_doc, by_fault, by_entries, in_patch, with_patch, localized_doc}
use Rattle.patch.specs.Conditions.{condition_of, key_fault, walk_fault}
use Rattle.patch.specs.Drafts.{Draft, draft, refusal, unless_broken, unless_astray, entries_draft, value_draft, found_draft, draft_of, draft_outcome, CardIn, Drafted, MakesFor}
use Rattle.patch.proofs.Listing.Conditions.{or_then_fault, fault_parts}

module _ (L : Limits) (words room : ℕ) (place : Name → ℕ) (card : Doc) where
  -- what is found of the keys, and else what is found of their walks
  by_faults : (ms : Members) (keys walks : PatchFault)
      → by_fault L words room place (start card) (entries_of ms) (or_then_fault keys walks)
      ≡ draft_outcome L words room (unless_broken (condition_of place keys) (unless_astray (condition_of place walks) (written (patched_doc card ms))))
  unfolding by_fault
  by_faults ms all_kept all_kept = refl
  by_faults ms all_kept (broken_by number key) = refl
  by_faults ms (broken_by number key) walks = refl

  by_entries_lem : (ms : Members)
      → by_entries L words room place (start card) ms (entries_of ms) ≡ draft_outcome L words room (entries_draft place card ms)
  unfolding by_entries
  by_entries_lem ms =
      ap (by_fault L words room place (start card) (entries_of ms)) (fault_parts (start card) ms) ∙ by_faults ms (key_fault ms) (walk_fault (start card) ms)

  by_value : (d : Doc) → in_patch L words room place (start card) d ≡ draft_outcome L words room (value_draft place card d)
  unfolding in_patch
  by_value (scalar kind token) = refl
  by_value (array ms) = refl
  by_value (object ms) = by_entries_lem ms

  by_found : (o : Option Property) → with_patch L words room place (start card) o ≡ draft_outcome L words room (found_draft place card o)
  unfolding with_patch
  by_found none = refl
  by_found (some p) = by_value p.content

  pub localized_draft : (lang : Name) → localized_doc L words room place card lang ≡ draft_outcome L words room (draft_of place card lang)
  unfolding localized_doc draft_of
  localized_draft lang = by_found (find (patch_at lang) card)

one_drafted : (d : Draft) (old new other : List ℕ) (r s : Result ℕ LocalRefusal) → Drafted d old new r → Drafted d old other s → (r ≡ s) × (new ≡ other)
one_drafted (draft t) old new other r s (a, b) (x, y) = (a ∙ sym x, b ∙ sym y)
one_drafted (refusal q tried) old new other r s (a, b) (x, y) = (a ∙ sym x, b ∙ sym y)

pub one_outcome : (text table : List ℕ) (lang : Name) (old new other : List ℕ) (r s : Result ℕ LocalRefusal) (f : Forest) → CardIn text table f
    → MakesFor text table lang old new r → MakesFor text table lang old other s → (r ≡ s) × (new ≡ other)
one_outcome text table lang old new other r s f c a b =
    one_drafted (draft_of (key_place text f lang) (doc_of text f) lang) old new other r s (a f c) (b f c)
