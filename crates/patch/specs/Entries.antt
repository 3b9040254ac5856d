-- The entries of a PatchObject by the rows at which they stand, in an order that may be another than the text's.
-- Assumes nothing: these are definitions.
use Rattle.std.specs.Prelude.{ℕ, ◌+◌, ◌<◌, ◌≤◌, ◌≡◌, List, [], ◌∷◌, length, get_or}
use Rattle.text.specs.Limits.{base}
use Rattle.text.specs.Strings.{name_of}
use Rattle.text.specs.Tree.{Forest, leaf, node}
use Rattle.text.specs.Tree as T
use Rattle.text.specs.Firsts.{HasFirst, Kinds, name_start, name_end, below_at, rest_at}
use Rattle.text.specs.Standing.{Stands, StandsTo}
use Rattle.text.specs.Doc.{Members, empty, member, label_at, doc_of}
use Rattle.contact.specs.Pointer.{pointer_of}
use Rattle.contact.specs.Patch.{Entry, entry, change_of}
use Rattle.pointers.specs.Pointers.{strip}

-- at the rows that the words i up to n of a list name stand these members, one after the other
pub data Listed (t table rows : List ℕ) : (i n : ℕ) → Members → Type 0 where
  over : {n : ℕ} → Listed t table rows n n empty
  next : {i n : ℕ} {ms : Members} (g : Forest) → i < n → HasFirst g → Kinds g → Stands table (get_or rows i 0) g → Listed t table rows (i + 1) n ms
      → Listed t table rows i n (member (name_of t (name_start g) (name_end g)) (label_at t (name_start g) (name_end g)) (doc_of t g) ms)

-- the entries of these members, each without the first parts of its pointer
unfoldable pub stripped : (parts : ℕ) → Members → List Entry
stripped parts empty = []
stripped parts (member key label d ms) = entry (strip parts (pointer_of key)) (change_of d) ∷ stripped parts ms

-- the most values that a card can have, and so the most entries of a PatchObject
abbrev pub most_entries : ℕ
most_entries = base.values

-- how many values there are, not looking inside them
abbrev pub width : Forest → ℕ
width T.none = 0
width (leaf kind ns ne from to rest) = width rest + 1
width (node b ns ne from to inside rest) = width rest + 1

-- the words i up to n of a list are the rows of these values, one after the other, of which the first stands at row k
pub data RowsOf (rows : List ℕ) : (i n k : ℕ) → Forest → Type 0 where
  no_more : {n k : ℕ} → RowsOf rows n n k T.none
  one_more : {i n k : ℕ} (f : Forest) → i < n → HasFirst f → get_or rows i 0 ≡ k → RowsOf rows (i + 1) n (k + 1 + below_at f) (rest_at f) → RowsOf rows i n k f

-- the first n words are the rows of the values that stand between two rows, where a card can have those rows and the list has room for so many; and n is
-- never too many
pub record Collected (table : List ℕ) (from end : ℕ) (rows : List ℕ) (n : ℕ) : Type 0 where
  pub inside : n ≤ length rows
  pub all : (f : Forest) → StandsTo table from end f → end ≤ most_entries → width f ≤ length rows → RowsOf rows 0 n from f
