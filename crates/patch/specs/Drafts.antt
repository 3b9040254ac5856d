-- What is written of a card for a language, before it is judged again; and what the functions that write it promise. Assumes nothing: these are definitions.
use Rattle.std.specs.Prelude.{Result, Ok, Err}
use Rattle.std.specs.Prelude.{ℕ, ◌≤◌, ◌<◌, ◌≡◌, List, [], true, cond, ltb, length}
use Rattle.std.proofs.Math.Option.{Option, none, some}
use Rattle.std.proofs.lemmas.List.Edits.{sets}
use Rattle.text.specs.Limits.{Limits, base}
use Rattle.text.specs.Tree.{Forest}
use Rattle.text.specs.Standing.{Stands}
use Rattle.text.specs.Firsts.{inside_at}
use Rattle.text.specs.Doc.{Name, Doc, scalar, array, object, Members, Property, members_of, doc_of}
use Rattle.text.specs.Distinct.{DistinctMembers}
use Rattle.text.specs.Writing.{written}
use Rattle.contact.specs.Verdict.{passed, judged_of}
use Rattle.contact.specs.Pointer.{find}
use Rattle.contact.specs.Patch.{entries_of}
use Rattle.contact.specs.Entries.{NoClash, ParentsThere}
use Rattle.contact.specs.Conditions.{HasKey}
use Rattle.contact.specs.Places.{quote_of, key_place}
use Rattle.contact.specs.Localize.{Outcome, denied, start, patch_at, patched_doc, by_room}
use Rattle.contact.specs.declared.LocalRefusal.{LocalRefusal}
use Rattle.contact.specs.declared.LocalRefusal.TheVariants.{NoLanguage, Short}
use Rattle.output.specs.Written.{full}
use Rattle.patch.specs.Entries.{most_entries, width}
use Rattle.patch.specs.Children.{Held}
use Rattle.patch.specs.Conditions.{ListedPlaces, condition_of, key_fault, walk_fault}
use Rattle.patch.specs.Marks.{ShortKeys}
use Rattle.patch.specs.Tails.{BeginAlike}
use Rattle.patch.specs.Patched.{Said, BaseAt}

-- ---- the draft

-- the text of the localized card; or a refusal from 21 to 26, and what was written before it was found
pub data Draft : Type 0 where
  draft : List ℕ → Draft
  refusal : LocalRefusal → (tried : List ℕ) → Draft

-- what is found before anything is written: a key at fault, named by its place, or else what comes then
abbrev pub unless_broken : Result Unit LocalRefusal → Draft → Draft
unless_broken (Ok tt) later = later
unless_broken (Err q) later = refusal q []

-- what is found while the text is written: it is a draft, unless a key is at fault
abbrev pub unless_astray : Result Unit LocalRefusal → (text : List ℕ) → Draft
unless_astray (Ok tt) text = draft text
unless_astray (Err q) text = refusal q text

-- 22 to 26, of the members of a PatchObject: 22 to 24 ask the keys, 25 and 26 where they lead in the card without its localizations
abbrev pub entries_draft : (place : Name → ℕ) → Doc → Members → Draft
entries_draft place card ms =
    unless_broken (condition_of place (key_fault ms)) (unless_astray (condition_of place (walk_fault (start card) ms)) (written (patched_doc card ms)))

-- 21: what the card has for the language is no object
abbrev pub value_draft : (place : Name → ℕ) → Doc → (patch : Doc) → Draft
value_draft place card (scalar kind token) = refusal NoLanguage []
value_draft place card (array ms) = refusal NoLanguage []
value_draft place card (object ms) = entries_draft place card ms

-- 21: it has nothing for the language
abbrev pub found_draft : (place : Name → ℕ) → Doc → Option Property → Draft
found_draft place card none = refusal NoLanguage []
found_draft place card (some p) = value_draft place card p.content

-- the card as the PatchObject that it has for a language leaves it; `place` says where a key stands
unfoldable pub draft_of : (place : Name → ℕ) → (card : Doc) → (lang : Name) → Draft
draft_of place card lang = found_draft place card (find (patch_at lang) card)

-- what becomes of a draft: 27 and 28 are left to ask
abbrev pub draft_outcome : Limits → (words room : ℕ) → Draft → Outcome
draft_outcome L words room (draft t) = by_room L words room t
draft_outcome L words room (refusal q tried) = denied q

-- ---- contracts

-- the text passes as a card, and the table begins with its rows, whatever is behind them
pub record CardIn (t table : List ℕ) (f : Forest) : Type 0 where
  pub passes : judged_of base (length table) t ≡ passed f
  pub rows : Stands table 0 f

-- the bytes of what the entries make of the card can be counted, unless they break a condition
abbrev pub Countable : Doc → Members → Type 0
Countable card ms =
    NoClash (entries_of ms) → ParentsThere (entries_of ms) (start card) → length (written (patched_doc card ms)) < full

-- so many bytes, if they have room; else 27
abbrev pub fitting_of : (count room : ℕ) → Result ℕ LocalRefusal
fitting_of count room = cond (ltb room count) (Err (Short count)) (Ok count)

-- A draft was written to an output as far as there is room, and the answer tells its length or 27; or its refusal was answered, and what was written before it
-- was found stands in the output.
abbrev pub Drafted : Draft → (old new : List ℕ) → Result ℕ LocalRefusal → Type 0
Drafted (draft t) old new r = (r ≡ fitting_of (length t) (length old)) × (new ≡ sets old 0 t)
Drafted (refusal q tried) old new r = (r ≡ Err q) × (new ≡ sets old 0 tried)

-- the card was written as the listed entries leave it, which ascend and do not clash; or 25 or 26 was found
abbrev pub PutSorted : (card ctable : List ℕ) → (leave : ℕ) → (text table rows : List ℕ) → (n shared : ℕ) → (old new : List ℕ) → Result ℕ LocalRefusal → Type 0
PutSorted card ctable leave text table rows n shared old new r =
    (place : Name → ℕ) (g : Forest) (ms : Members) → BaseAt card ctable leave 0 true g → Said text table rows 0 n 0 ms
    → BeginAlike text table rows n shared → ListedPlaces text table rows n place → Countable (doc_of card g) ms
    → Drafted (unless_astray (condition_of place (walk_fault (start (doc_of card g)) ms)) (written (patched_doc (doc_of card g) ms))) old new r

-- what is asked to write the card as the PatchObject at a row leaves it: the row's number is below the table's words, and the list of rows is no longer than
-- the other two, nor than the most entries
abbrev pub MakeAsks : (table : List ℕ) (patch : ℕ) (rows cues walks : List ℕ) → Type 0
MakeAsks table patch rows cues walks =
    (patch < length table) × (length rows ≤ most_entries) × (length rows ≤ length cues) × (length rows ≤ length walks)

-- the PatchObject at a row has no more entries than this
abbrev pub EntriesUpTo : (table : List ℕ) (patch most : ℕ) → Type 0
EntriesUpTo table patch most = (p : Forest) → Held table most_entries patch p → width (inside_at p) ≤ most

-- `place` says where the key of each entry of the PatchObject stands
abbrev pub PlacesOf : (text : List ℕ) → (entries : Forest) → (place : Name → ℕ) → Type 0
PlacesOf text entries place = (key : Name) → HasKey key (members_of text entries) → place key ≡ quote_of text key entries

-- The card as the PatchObject at a row of a table leaves it was written, or was not. Its names and those of the card are distinct, and its text is so
-- short that each place in it is a cue.
abbrev pub Makes : (card ctable : List ℕ) → (leave : ℕ) → (text table : List ℕ) → (patch : ℕ) → (old new : List ℕ) → Result ℕ LocalRefusal → Type 0
Makes card ctable leave text table patch old new r =
    (place : Name → ℕ) (g p : Forest) → BaseAt card ctable leave 0 true g → Held table most_entries patch p → DistinctMembers (members_of text (inside_at p))
    → PlacesOf text (inside_at p) place → ShortKeys text → Countable (doc_of card g) (members_of text (inside_at p))
    → Drafted (entries_draft place (doc_of card g) (members_of text (inside_at p))) old new r

-- the same, if the PatchObject has no more entries than this
abbrev pub MakesUpTo : (most : ℕ) → (card ctable : List ℕ) → (leave : ℕ) → (text table : List ℕ) → (patch : ℕ) → (old new : List ℕ) → Result ℕ LocalRefusal → Type 0
MakesUpTo most card ctable leave text table patch old new r = EntriesUpTo table patch most → Makes card ctable leave text table patch old new r

-- the card as the PatchObject of a language leaves it
abbrev pub MakesFor : (text table : List ℕ) → (lang : Name) → (old new : List ℕ) → Result ℕ LocalRefusal → Type 0
MakesFor text table lang old new r =
    (f : Forest) → CardIn text table f → Drafted (draft_of (key_place text f lang) (doc_of text f) lang) old new r
