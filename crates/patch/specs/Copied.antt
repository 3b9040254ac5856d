-- Values written as they are, from their rows. Assumes nothing: these are definitions.
use Rattle.std.specs.Prelude.{ℕ, Bool, cond, List, [], ◌∷◌, ◌++◌, eqb}
use Rattle.text.specs.Tree.{square, curly, Forest}
use Rattle.text.specs.Grammar.{opening, closing}
use Rattle.text.specs.Doc.{label_at, doc_of}
use Rattle.text.specs.Writing.{comma, written}
use Rattle.json_reader.specs.Rows.{name_start_in, name_end_in}
use Rattle.output.specs.Written.{Wrote}
use Rattle.json_reader.specs.Lookup.{KnownAt}

-- ---- what is inside an array (6) or an object (7)

-- its opening bracket, as a byte
abbrev pub open_byte : (kind : ℕ) → ℕ
open_byte kind = cond (eqb kind 7) (opening curly) (opening square)

-- its closing one
abbrev pub close_byte : (kind : ℕ) → ℕ
close_byte kind = cond (eqb kind 7) (closing curly) (closing square)

-- what stands before a value inside it: a comma, and in an object the name as written and a colon
abbrev pub head_of : (kind : ℕ) → (first : Bool) → (label : List ℕ) → List ℕ
head_of kind first label = comma first ++ cond (eqb kind 7) (label ++ (58 ∷ [])) []

-- ---- contracts

-- the name of the value at a row, as written
abbrev pub label_in : (t table : List ℕ) → (row : ℕ) → List ℕ
label_in t table row = label_at t (name_start_in table row) (name_end_in table row)

-- the value at the row was written, whichever stands there
abbrev pub Copied : (t table : List ℕ) → (row : ℕ) → (old : List ℕ) → (at : ℕ) → (new : List ℕ) → (r : ℕ) → Type 0
Copied t table row old at new r = (g : Forest) → KnownAt table row g → Wrote old at (written (doc_of t g)) new r
