-- What the functions that read a whole text answer. Assumes nothing: these are definitions.
use Rattle.std.specs.Prelude.{Result, Ok, Err}
use Rattle.text.specs.declared.Refusal.{Refusal}
use Rattle.std.specs.Prelude.{ℕ, ◌*◌, ◌≤◌, ◌≡◌, List, cond, ltb, length, replicate}
use Rattle.std.proofs.lemmas.List.Edits.{sets}
use Rattle.text.specs.Limits.{Limits, row_words, base}
use Rattle.text.specs.Tree.{Forest, size, tree_rows}
use Rattle.text.specs.Reader.{Read, good, bad}
use Rattle.text.specs.Sheet.{paper}
use Rattle.text.specs.Whole.{read_of, whole_of, sheet_of}
use Rattle.text.specs.declared.Refusal.TheVariants.{Small}

-- what is left in a table where nothing is cleared behind the rows: these over its first words; after a refusal zeros alone
abbrev pub kept_of : (old : List ℕ) → Read → List ℕ
kept_of old (good f to) = sets old 0 (tree_rows f)
kept_of old (bad r) = replicate (length old) 0

-- the answer, and every word of the table, of a reading that leaves what is behind the rows
pub record ReadsRows (L : Limits) (t old : List ℕ) (answer : Result ℕ Refusal) (new : List ℕ) : Type 0 where
  pub answered : paper answer ≡ sheet_of (whole_of L (length old) t)
  pub left : new ≡ kept_of old (whole_of L (length old) t)

-- R accepts the text, and its rows stand in the table from the start, as far as it has room
pub record Stored (R : Read) (old new : List ℕ) (n : ℕ) : Type 0 where
  pub trees : Forest
  pub to : ℕ
  pub is : R ≡ good trees to
  pub count : n ≡ size trees
  pub table : new ≡ sets old 0 (tree_rows trees)

-- the answer of a reading of a whole text says what R is; on a refusal the table may hold anything
abbrev pub Ended : Read → (old new : List ℕ) → Result ℕ Refusal → Type 0
Ended R old new (Ok n) = Stored R old new n × (n ≤ base.values)
Ended R old new (Err r) = R ≡ bad r

-- the number of rows in an answer is within the limit
abbrev pub Counted : Result ℕ Refusal → Type 0
Counted (Ok n) = n ≤ base.values
Counted (Err r) = Prim.Unit {0}

-- the same answer, or 7: a table of so many words has fewer whole rows
abbrev pub in_room : (words : ℕ) → Result ℕ Refusal → Result ℕ Refusal
in_room words (Ok n) = cond (ltb words (row_words * n)) (Err (Small n)) (Ok n)
in_room words (Err r) = Err r

-- a text was read into a table that was `old`, with the answer `read`: then this is the whole answer, and the table after it
abbrev pub KeepsRows : (mid : List ℕ) (read answer : Result ℕ Refusal) (new : List ℕ) → Type 0
KeepsRows mid read answer new =
    (L : Limits) (t old : List ℕ) → length mid ≡ length old → Ended (read_of L t) old mid read → ReadsRows L t old answer new
