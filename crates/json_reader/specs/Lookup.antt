-- Values that stand at a row, the row after one, and a member found by its name among rows. Assumes nothing: these are definitions.
use Rattle.std.specs.Prelude.{Option, Some, None}
use Rattle.std.specs.Prelude.{ℕ, ◌+◌, ◌≡◌, cond, List, eqb}
use Rattle.std.proofs.Math.Option.{none, some}
use Rattle.laws.specs.Order.{same}
use Rattle.text.specs.Strings.{name_of}
use Rattle.text.specs.Tree.{Forest}
use Rattle.text.specs.Tree as F
use Rattle.text.specs.Firsts.{HasFirst, Kinds, name_start, name_end}
use Rattle.text.specs.Standing.{Stands, StandsTo}
use Rattle.text.specs.Doc.{Name, Property, property, label_at, doc_of, members_of, seek}
use Rattle.json_reader.specs.Rows.{name_start_in, name_end_in, below_in}

-- a value stands at the row, the first of some; a row's kind tells whether it holds others
pub record KnownAt (table : List ℕ) (row : ℕ) (f : Forest) : Type 0 where
  pub some : HasFirst f
  pub kinds : Kinds f
  pub stands : Stands table row f

-- the largest number of a row: no table has so many
abbrev pub last_row : ℕ
last_row = 18446744073709551615

-- the row after the value at a row and all that is below it, as long as there are numbers for rows
unfoldable pub row_after : (table : List ℕ) → (row : ℕ) → ℕ
row_after table row = cond (eqb row last_row) row (row + 1 + below_in table row)

-- ---- a member of a name

-- the first value of a forest as a property of its object
abbrev pub first_member : List ℕ → Forest → Property
first_member t g = property (label_at t (name_start g) (name_end g)) (doc_of t g)

-- the values from the first that has the name on; none if no value has it
unfoldable pub from_name : List ℕ → Name → Forest → Forest
from_name t n F.none = F.none
from_name t n (F.leaf kind ns ne from to rest) =
    let later = from_name t n rest in
    cond (same (name_of t ns ne) n) (F.leaf kind ns ne from to rest) later
from_name t n (F.node b ns ne from to inside rest) =
    let later = from_name t n rest in
    cond (same (name_of t ns ne) n) (F.node b ns ne from to inside rest) later

-- among the values f, which end before a row, the member n is the first of those that stand from row m on
pub record Standing (t table : List ℕ) (end : ℕ) (n : Name) (f : Forest) (m : ℕ) : Type 0 where
  pub found : Forest
  pub some_found : HasFirst found
  pub stands : StandsTo table m end found
  pub first : found ≡ from_name t n f
  pub named : name_of t (name_start_in table m) (name_end_in table m) ≡ n
  pub kinds : Kinds f → Kinds found
  pub is : seek n (members_of t f) ≡ some (first_member t found)

-- what an answer says
abbrev pub Finds : (t table : List ℕ) (end : ℕ) (n : Name) (f : Forest) → Option ℕ → Type 0
Finds t table end n f (Some m) = Standing t table end n f m
Finds t table end n f None = seek n (members_of t f) ≡ none
