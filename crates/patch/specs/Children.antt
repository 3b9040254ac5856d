-- The names of members by their rows, and a member that was looked for. Assumes nothing: these are definitions.
use Rattle.std.specs.Prelude.{Option, Some, None}
use Rattle.std.specs.Prelude.{ℕ, ◌+◌, ◌≤◌, ◌≡◌, List}
use Rattle.std.proofs.Math.Option.{none}
use Rattle.laws.specs.Lists.{part_of}
use Rattle.text.specs.Tree.{Forest, size}
use Rattle.text.specs.Firsts.{inside_at, below_at}
use Rattle.text.specs.Strings.{name_of}
use Rattle.text.specs.Doc.{Name, object, members_of, doc_of}
use Rattle.json_reader.specs.Rows.{name_start_in, name_end_in}
use Rattle.json_reader.specs.Lookup.{KnownAt, Standing}
use Rattle.contact.specs.Pointer.{child}

-- ---- names

-- the key at a row, as it is written
abbrev pub key_bytes : (t table : List ℕ) → (row : ℕ) → List ℕ
key_bytes t table row = part_of t (name_start_in table row) (name_end_in table row)

-- the key at a row, decoded
abbrev pub key_at : (t table : List ℕ) → (row : ℕ) → Name
key_at t table row = name_of t (name_start_in table row) (name_end_in table row)

-- ---- a member that was looked for

-- a value that stands at a row, with all that follows it, before a row
pub record Held (table : List ℕ) (limit row : ℕ) (g : Forest) : Type 0 where
  pub value : KnownAt table row g
  pub within : row + size g ≤ limit

-- the value g at a row is an object, and the first of its members that has the name stands at row m
pub record ChildAt (t table : List ℕ) (limit row : ℕ) (n : Name) (g : Forest) (m : ℕ) : Type 0 where
  pub whole : doc_of t g ≡ object (members_of t (inside_at g))
  pub place : Standing t table (row + 1 + below_at g) n (inside_at g) m
  pub held : Held table limit m place.found

-- what an answer says of a member
abbrev pub ChildFound : (t table : List ℕ) → (limit row : ℕ) → Name → Forest → Option ℕ → Type 0
ChildFound t table limit row n g (Some m) = ChildAt t table limit row n g m
ChildFound t table limit row n g None = child n (doc_of t g) ≡ none
