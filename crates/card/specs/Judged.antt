-- The verdict on the rows of a text that was read, and on the text. Assumes nothing: these are definitions.
use Rattle.std.specs.Prelude.{Result, Ok, Err}
use Rattle.text.specs.declared.Refusal.{Refusal}
use Rattle.contact.specs.declared.CardRefusal.{CardRefusal}
use Rattle.std.specs.Prelude.{ℕ, ◌*◌, ◌≤◌, ◌≡◌, List, length, get_or, replicate}
use Rattle.std.proofs.lemmas.List.Edits.{sets}
use Rattle.text.specs.Limits.{Limits, row_words}
use Rattle.text.specs.Tree.{Forest, size, tree_rows, starts_of}
use Rattle.text.specs.Promised.{Filled}
use Rattle.text.specs.Reader.{good}
use Rattle.text.specs.Whole.{whole_of}
use Rattle.text.specs.Doc.{doc_of}
use Rattle.json_reader.specs.Answers.{ReadsRows}
use Rattle.contact.specs.Judge.{Breach, nothing, found, card_breach}
use Rattle.contact.specs.Verdict.{Judged, passed, failed, fault_of, judged_of, answer_of_judged}
use Rattle.contact.specs.declared.CardRefusal.TheVariants.{Card}

-- a text was read into the first n rows of a table, with the tree f
pub record ReadInto (L : Limits) (t table : List ℕ) (n : ℕ) (f : Forest) : Type 0 where
  pub filled : Filled L t table n f
  pub count : size f ≡ n
  pub end : ℕ
  pub whole : whole_of L (length table) t ≡ good f end

-- a text was read into a table that was `lent` before, with this answer
pub record WasRead (L : Limits) (t lent : List ℕ) (answer : Result ℕ Refusal) (table : List ℕ) : Type 0 where
  pub long : length table ≡ length lent
  pub reads : ReadsRows L t lent answer table

-- by what the search of the document finds: the table as it was, or the fault at the start of the row's value and a table of zeros
abbrev pub ByBreach : (old : List ℕ) (n : ℕ) (f : Forest) → Breach → Result ℕ CardRefusal → (new : List ℕ) → Type 0
ByBreach old n f nothing r new = (r ≡ Ok n) × (new ≡ old)
ByBreach old n f (found row number) r new = (r ≡ Err (Card (fault_of number (get_or (starts_of f) row 0)))) × (new ≡ replicate (length old) 0)

-- the answer and the table are those of the first breach of the document
abbrev pub JudgedRows : (t old : List ℕ) (n : ℕ) (f : Forest) → Result ℕ CardRefusal → (new : List ℕ) → Type 0
JudgedRows t old n f r new = ByBreach old n f (card_breach (doc_of t f)) r new

-- what judging leaves before anything is cleared behind the rows: these over the table's first words; after a refusal zeros alone
abbrev pub kept_of_judged : (old : List ℕ) → Judged → List ℕ
kept_of_judged old (passed f) = sets old 0 (tree_rows f)
kept_of_judged old (failed r) = replicate (length old) 0

-- the answer, and every word of the table, of a judging that leaves what is behind the rows
pub record JudgesRows (L : Limits) (t old : List ℕ) (answer : Result ℕ CardRefusal) (new : List ℕ) : Type 0 where
  pub answered : answer ≡ answer_of_judged (judged_of L (length old) t)
  pub left : new ≡ kept_of_judged old (judged_of L (length old) t)

-- the rows that a verdict counts fit a table
abbrev pub RowsFit : Result ℕ CardRefusal → (table : List ℕ) → Type 0
RowsFit (Ok n) table = n * row_words ≤ length table
RowsFit (Err r) table = Prim.Unit {0}
