-- The rows of values stand in a table: what the reading layer promises of a table that it filled, and what a reader of rows asks.
-- Assumes nothing: these are definitions.
use Rattle.std.specs.Prelude.{ℕ, ◌+◌, ◌*◌, ◌≤◌, ◌≡◌, List, length}
use Rattle.text.specs.Limits.{row_words}
use Rattle.text.specs.Words.{kind_in, name_start_in, name_end_in, start_in, end_in, below_in}
use Rattle.text.specs.Tree.{Forest, none, leaf, node, size}
use Rattle.text.specs.Seats.{Head, leaf_head, node_head}

-- row k of the table says of the value h, in six words, what it is by itself; its parent and its next sibling follow (specs/Kin.antt)
pub record RowAt (table : List ℕ) (k : ℕ) (h : Head) : Type 0 where
  -- kind
  pub kind : kind_in table k ≡ h.kind
  -- name start, after the quote
  pub name_starts : name_start_in table k ≡ h.ns
  -- name end, without the quote
  pub name_ends : name_end_in table k ≡ h.ne
  -- value start
  pub start : start_in table k ≡ h.from
  -- value end, exclusive
  pub finish : end_in table k ≡ h.to
  -- number of values below it
  pub below : below_in table k ≡ h.below

-- from row k of the table on stand the rows of the values, one beside the other, each before those of what is inside it
abbrev pub RowsAt : (table : List ℕ) (k : ℕ) → Forest → Type 0
RowsAt table k none = Prim.Unit {0}
RowsAt table k (leaf kind ns ne from to rest) = RowAt table k (leaf_head kind ns ne from to) × RowsAt table (k + 1) rest
RowsAt table k (node b ns ne from to inside rest) =
    RowAt table k (node_head b ns ne from to (size inside)) × RowsAt table (k + 1) inside × RowsAt table (k + 1 + size inside) rest

-- the same, and the table has room for them
pub record Stands (table : List ℕ) (k : ℕ) (f : Forest) : Type 0 where
  pub rows : RowsAt table k f
  pub room : (k + size f) * row_words ≤ length table

-- the same, and they end before row `end`
pub record StandsTo (table : List ℕ) (k end : ℕ) (f : Forest) : Type 0 where
  pub stands : Stands table k f
  pub ends : k + size f ≡ end
