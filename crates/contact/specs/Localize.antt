-- Localizing (docs/RULES.md, 6): from a card text and a language to the localized card in the lent output and its rows in the lent table, or the refusal.
-- Assumes nothing: these are definitions.
use Rattle.std.specs.Prelude.{Result, Ok, Err}
use Rattle.std.specs.Prelude.{ℕ, List, [], cond, length, eqb, ltb}
use Rattle.std.proofs.Math.Option.{Option, none, some}
use Rattle.text.specs.Limits.{Limits}
use Rattle.text.specs.Text.{bytes}
use Rattle.laws.specs.Lists.{filled}
use Rattle.text.specs.Tree.{Forest, size, tree_rows}
use Rattle.text.specs.Doc.{Name, Doc, scalar, array, object, Members, Property, doc_of}
use Rattle.text.specs.Writing.{written}
use Rattle.contact.specs.Verdict.{Judged, passed, failed, judged_of, refused_card}
use Rattle.text.specs.declared.Paper.{Paper}
use Rattle.text.specs.Sheet.{numbers}
use Rattle.contact.specs.Pointer.{Pointer, last, down, find}
use Rattle.contact.specs.Patch.{Entry, entries_of, without, in_object, applied}
use Rattle.contact.specs.Faults.{PatchFault, all_kept, broken_by, fault_in}
use Rattle.contact.specs.Places.{key_place}
use Rattle.contact.specs.declared.LocalRefusal.{LocalRefusal}
use Rattle.contact.specs.declared.LocalRefusal.TheVariants.{Given, NoLanguage, BadKey, OwnLocalizations, Clash, InArray, NoObject, Short, Inner}

-- ---- the sheet's lines 21 to 28; 22 to 26 hand out the place of a key, 28 hands out the inner refusal's number alone

-- the numbers of a refusal
unfoldable pub refused_local : LocalRefusal → Paper
refused_local (Given r) = refused_card r
refused_local NoLanguage = numbers 21 0 0
refused_local (BadKey p) = numbers 22 p 0
refused_local (OwnLocalizations p) = numbers 23 p 0
refused_local (Clash p) = numbers 24 p 0
refused_local (InArray p) = numbers 25 p 0
refused_local (NoObject p) = numbers 26 p 0
refused_local (Short n) = numbers 27 n 0
refused_local (Inner r) = numbers 28 (refused_card r).number 0

-- the numbers of an answer: 0, the rows and the bytes written, or those of the refusal
unfoldable pub paper_of_localized : Result (ℕ × ℕ) LocalRefusal → Paper
paper_of_localized (Ok (rows, n)) = numbers 0 rows n
paper_of_localized (Err r) = refused_local r

-- the refusal of a number from 22 to 26, with the place of the key that breaks it
abbrev pub key_refusal : (number place : ℕ) → LocalRefusal
key_refusal number p =
    cond (eqb number 22) (BadKey p)
    (cond (eqb number 23) (OwnLocalizations p) (cond (eqb number 24) (Clash p) (cond (eqb number 25) (InArray p) (NoObject p))))

-- ---- localizing

-- the text of the localized card and its tree, or the refusal
pub data Outcome : Type 0 where
  done : (text : List ℕ) → Forest → Outcome
  denied : LocalRefusal → Outcome

-- the starting point: the card without `localizations`
abbrev pub start : Doc → Doc
start card = in_object (without (bytes "localizations")) card

-- where a language's PatchObject is
abbrev pub patch_at : Name → Pointer
patch_at lang = down (bytes "localizations") (last lang)

-- the card as a PatchObject, with these members, leaves it
abbrev pub patched_doc : Doc → Members → Doc
patched_doc card ms = applied (start card) (entries_of ms)

module _ (L : Limits) (words room : ℕ) where
  -- 28: the localized card would itself be refused. It is judged as any text is, for the same table, and its rows are those of reading it
  unfoldable pub by_judge : (text : List ℕ) → Judged → Outcome
  by_judge text (passed f) = done text f
  by_judge text (failed r) = denied (Inner r)

  -- 27: the output is shorter than needed
  unfoldable pub by_room : (text : List ℕ) → Outcome
  by_room text =
      let all = by_judge text (judged_of L words text) in
      cond (ltb room (length text)) (denied (Short (length text))) all

module _ (L : Limits) (words room : ℕ) (place : Name → ℕ) where
  -- a broken condition refuses, with the place of the key; if none is broken, what the entries make of d is written
  unfoldable pub by_fault : (d : Doc) → List Entry → PatchFault → Outcome
  by_fault d es all_kept = by_room L words room (written (applied d es))
  by_fault d es (broken_by number key) = denied (key_refusal number (place key))

  -- 22 to 26, of d, the card without its localizations
  unfoldable pub by_entries : (d : Doc) → Members → List Entry → Outcome
  by_entries d ms es = by_fault d es (fault_in d ms)

  -- the PatchObject; judging has seen to it that it is an object
  unfoldable pub in_patch : (d : Doc) → (patch : Doc) → Outcome
  in_patch d (scalar kind token) = denied NoLanguage
  in_patch d (array ms) = denied NoLanguage
  in_patch d (object ms) = by_entries d ms (entries_of ms)

  -- 21: no such language in the card
  unfoldable pub with_patch : (d : Doc) → Option Property → Outcome
  with_patch d none = denied NoLanguage
  with_patch d (some p) = in_patch d p.content

  -- a card that passes: its PatchObject for the language is looked up, and applied to the card without localizations
  unfoldable pub localized_doc : (card : Doc) → (lang : Name) → Outcome
  localized_doc card lang = with_patch (start card) (find (patch_at lang) card)

module _ (L : Limits) (words room : ℕ) where
  -- the card's own refusal comes first; a key is named by its place in the text
  unfoldable pub localized_judged : (text : List ℕ) → (lang : Name) → Judged → Outcome
  localized_judged text lang (failed r) = denied (Given r)
  localized_judged text lang (passed f) = localized_doc L words room (key_place text f lang) (doc_of text f) lang

  -- a text localized, for a table of so many words and an output of so many bytes
  unfoldable pub localized_of : (text : List ℕ) → (lang : Name) → Outcome
  localized_of text lang = localized_judged text lang (judged_of L words text)

-- ---- the answer, the whole table and the whole output

-- the answer as it is handed out, with 28's inner place, which the paper's numbers leave out
unfoldable pub answer_of_outcome : Outcome → Result (ℕ × ℕ) LocalRefusal
answer_of_outcome (done text f) = Ok (size f, length text)
answer_of_outcome (denied r) = Err r

-- in the paper's numbers: 0, the row count and the output's length; or the refusal's number and its second number
unfoldable pub sheet_of_outcome : Outcome → Paper
sheet_of_outcome o = paper_of_localized (answer_of_outcome o)

-- the rows of the localized card and zero after them; after a refusal zero
unfoldable pub table_of_outcome : (words : ℕ) → Outcome → List ℕ
table_of_outcome words (done text f) = filled words (tree_rows f)
table_of_outcome words (denied r) = filled words []

-- its text and zero after it; after a refusal zero
unfoldable pub output_of_outcome : (room : ℕ) → Outcome → List ℕ
output_of_outcome room (done text f) = filled room text
output_of_outcome room (denied r) = filled room []
