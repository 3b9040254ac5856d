-- What a search among the rows of a value's members finds; and the key of an entry, by its row and those before it. Assumes nothing: these are definitions.
use Rattle.std.specs.Prelude.{Some, None, Option}
use Rattle.std.specs.Prelude.{ℕ, ◌≡◌, List, [], ◌∷◌}
use Rattle.std.proofs.Math.Option.{Option as Maybe, none, some}
use Rattle.text.specs.Tree.{Forest}
use Rattle.text.specs.Firsts.{HasFirst}
use Rattle.text.specs.Standing.{Stands}
use Rattle.text.specs.Strings.{name_of}
use Rattle.text.specs.Doc.{Name, Members, empty, member, Doc, doc_of, members_of}
use Rattle.contact.specs.Schema.{Key}
use Rattle.json_reader.specs.Rows.{name_start_in, name_end_in}

-- a value stands at the row, the first of some
pub record ValueAt (table : List ℕ) (row : ℕ) (f : Forest) : Type 0 where
  pub some : HasFirst f
  pub stands : Stands table row f

-- the answer is the row of the value of what there is, or there is none
abbrev pub RowOf : {A : Type 0} → (value_of : A → Doc) → (text table : List ℕ) → Option ℕ → Maybe A → Type 0
RowOf value_of text table (Some k) (some a) = (f : Forest) × ValueAt table k f × (value_of a ≡ doc_of text f)
RowOf value_of text table (Some k) none = ⊥
RowOf value_of text table None (some a) = ⊥
RowOf value_of text table None none = Prim.Unit {0}

-- of a value
abbrev pub ValueOf : (text table : List ℕ) → Option ℕ → Maybe Doc → Type 0
ValueOf text table r o = RowOf (λ (d : Doc). d) text table r o

-- the names of members, the last of them first, before some names
unfoldable pub names_onto : Members → List Name → List Name
names_onto empty names = names
names_onto (member n label d ms) names = names_onto ms (n ∷ names)

-- the key of the entry at a row, which stands behind some entries of its map
abbrev pub row_key : (text table : List ℕ) → Forest → (at : ℕ) → Key
row_key text table f at =
    record { name = name_of text (name_start_in table at) (name_end_in table at); before = names_onto (members_of text f) [] }
