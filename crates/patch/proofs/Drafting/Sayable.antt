-- What is drafted for a card is written of a document, which can be written as the card can: `draft_sayable`. So it has no name twice in an object.
-- Assumes nothing.
use mathlib.Core.Path.{◌≡◌, refl}
use mathlib.Core.List.{List}
use mathlib.Core.Option.{Option, none, some}
use Prim.Native.Nat.{ℕ}
use Rattle.text.specs.Doc.{Name, Doc, scalar, array, object, Members, Property, property}
use Rattle.text.specs.Writing.{written}
use Rattle.text.specs.Writable.{Writable}
use Rattle.contact.specs.Pointer.{find}
use Rattle.contact.specs.Localize.{start, patch_at, patched_doc}
use Rattle.contact.specs.Conditions.{PatchOf}
use Rattle.contact.proofs.Patching.Together.{start_writable, patch_writable, applied_writable}
use Rattle.contact.specs.Faults.{PatchFault, all_kept, broken_by}
use Rattle.patch.specs.Conditions.{condition_of, key_fault, walk_fault}
use Rattle.patch.specs.Drafts.{Draft, draft, refusal, unless_broken, unless_astray, entries_draft, value_draft, found_draft, draft_of}
use Rattle.patch.proofs.Listing.Kept.{keys_kept}

-- a text that was drafted is what is written of a document that can be written
abbrev pub Sayable : Draft → Type 0
Sayable (draft t) = (x : Doc) × (t ≡ written x) × Writable x
Sayable (refusal q tried) = Prim.Unit {0}

module _ (place : Name → ℕ) (card : Doc) (lang : Name) (w : Writable card) where
  by_entries_lem : (ms : Members) → PatchOf card lang ms → Sayable (entries_draft place card ms)
  by_entries_lem ms patch = go (key_fault ms) refl (walk_fault (start card) ms)
    where
      go : (keys : PatchFault) → key_fault ms ≡ keys → (walks : PatchFault)
          → Sayable (unless_broken (condition_of place keys) (unless_astray (condition_of place walks) (written (patched_doc card ms))))
      go (broken_by number key) e walks = tt
      go all_kept e (broken_by number key) = tt
      go all_kept e all_kept =
          let applied = applied_writable (start card) ms (start_writable card w) (patch_writable card lang ms patch w) (keys_kept ms e).no_clash in
          (patched_doc card ms, refl, applied)

  by_value : (label : List ℕ) (d : Doc) → find (patch_at lang) card ≡ some (property label d) → Sayable (value_draft place card d)
  by_value label (scalar kind token) e = tt
  by_value label (array ms) e = tt
  by_value label (object ms) e = by_entries_lem ms (record { label = label; stands = e })

  by_found : (o : Option Property) → find (patch_at lang) card ≡ o → Sayable (found_draft place card o)
  by_found none e = tt
  by_found (some p) e = by_value p.label p.content e

  pub draft_sayable : Sayable (draft_of place card lang)
  unfolding draft_of
  draft_sayable = by_found (find (patch_at lang) card) refl
