-- What the functions of packing promise: fields whose content is written first, from behind the place of their head, and then the head. Assumes nothing:
-- these are definitions.
use Rattle.std.specs.Prelude.{Result, Ok, Err}
use Rattle.packing.specs.declared.PackRefusal.{PackRefusal}
use Rattle.std.specs.Prelude.{ℕ, ◌+◌, ◌-◌, ◌/◌, ◌%◌, ◌≤◌, ◌<◌, ◌≡◌, cond, List, [], ◌∷◌, ◌++◌, length, take, replicate, ltb, eqb}
use Rattle.std.proofs.lemmas.List.Edits.{sets}
use Rattle.laws.specs.Lists.{filled}
use Rattle.text.specs.Text.{byte_at}
use Rattle.text.specs.Strings.{name_of}
use Rattle.text.specs.Tree.{Bracket, square, curly, Forest}
use Rattle.text.specs.Doc.{doc_of}
use Rattle.json_reader.specs.Rows.{name_start_in, name_end_in}
use Rattle.json_reader.specs.Lookup.{KnownAt}
use Rattle.output.specs.Written.{CountedPlace}
use Rattle.packing.specs.Packed.{name_field, packed}
pub use Rattle.packing.specs.Packed.{head_size, longest}
use Rattle.packing.specs.declared.PackRefusal.TheVariants.{Wide, Short}

-- ---- fields

-- the bytes of a head, whatever the numbers are: of the tag and the length what single bytes can say
abbrev pub head_of : (tag n : ℕ) → List ℕ
head_of tag n = (tag % 256) ∷ (n / 256 % 256) ∷ (n % 256) ∷ []

-- The bytes were written from the place `at` on, as far as there is room, and r is the place after them, room or not. They need not be right where they
-- end behind the longest packing, which is refused anyhow: so no length inside them has to be looked at.
pub record Laid (old : List ℕ) (at : ℕ) (bytes new : List ℕ) (r : ℕ) : Type 0 where
  pub to : CountedPlace (at + length bytes) r
  pub out : at + length bytes ≤ longest → new ≡ sets old at bytes
  pub long : length new ≡ length old

-- ---- contents

-- a byte that stands for itself in a string: any but a backslash
pub record Raw (b : ℕ) : Type 0 where
  pub byte : b < 256
  pub no_slash : b ≡ 92 → ⊥

-- all bytes from the start up to the place r are such
abbrev pub RawTo : (t : List ℕ) → (r : ℕ) → Type 0
RawTo t r = (i : ℕ) → i < r → Raw (byte_at t i)

-- ---- contracts

-- the items of an array (6) or an object (7)
abbrev pub bracket_of : (kind : ℕ) → Bracket
bracket_of kind = cond (eqb kind 7) curly square

-- the name of the value at a row was written as a field, if the value stands in an object
abbrev pub LaidName : (t table : List ℕ) → (row kind : ℕ) → (old : List ℕ) → (at : ℕ) → (new : List ℕ) → (r : ℕ) → Type 0
LaidName t table row kind old at new r = Laid old at (name_field (bracket_of kind) (name_of t (name_start_in table row) (name_end_in table row))) new r

-- the value at the row was written as a field, whichever stands there
abbrev pub LaidValue : (t table : List ℕ) → (row : ℕ) → (old : List ℕ) → (at : ℕ) → (new : List ℕ) → (r : ℕ) → Type 0
LaidValue t table row old at new r = (g : Forest) → KnownAt table row g → Laid old at (packed (doc_of t g)) new r

-- the answer on so many rows and bytes, and what is left of the table and of the output: 51, else 52, else what was written
pub record Finished (rows len : ℕ) (out table : List ℕ) (answer : Result (ℕ × ℕ) PackRefusal) (table' out' : List ℕ) : Type 0 where
  pub answered : answer ≡ cond (ltb longest len) (Err Wide) (cond (ltb (length out) len) (Err (Short len)) (Ok (rows, len)))
  pub left : table' ≡ cond (ltb longest len) (filled (length table) []) (cond (ltb (length out) len) (filled (length table) []) table)
  pub bytes : out' ≡ cond (ltb longest len) (filled (length out) [])
      (cond (ltb (length out) len) (filled (length out) []) (take len out ++ replicate (length out - len) 0))
