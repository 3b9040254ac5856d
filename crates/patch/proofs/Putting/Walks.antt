-- Values that stand at rows, and a walk along the values inside a container, each written in its turn:
--     value_row, value-inside                            a value at a row: its words, and where those inside it stand
--     Passing                                            what a loop along rows keeps, whatever stands there
--     Walk, walk_start, walk_here, walk-on, walk_end     `rest vs first` are the bytes from the values vs on
-- Assumes nothing.
use Prim.Native.Nat.{ℕ, ◌+◌, ◌≤◌, ◌<◌}
use mathlib.Core.Path.{◌≡◌}
use mathlib.Core.Bool.{Bool}
use mathlib.Core.List.{List}
use lib.ListN.{length}
use Rattle.text.specs.Tree.{Forest, none}
use Rattle.text.specs.Firsts.{inside_at, head_at, rest_at, Kinds}
use Rattle.text.specs.Standing.{StandsTo, RowAt}
use Rattle.text.proofs.Promise.{first_row_lem, inside, after, some_at, none_at}
use Rattle.json_reader.specs.Rows.{below_in}
use Rattle.json_reader.specs.Lookup.{last_row, KnownAt}
use Rattle.json_reader.proofs.Seeking.{inside_kinds, rest_kinds}
use Rattle.output.proofs.Bytes.{BytesLeft}

-- the words of its row
pub value_row : {table : List ℕ} {row : ℕ} {g : Forest} → KnownAt table row g → RowAt table row (head_at g)
value_row {g = g} v = first_row_lem g v.some v.stands

-- what is inside it, by the number of rows
pub value_inside : {table : List ℕ} {row k : ℕ} {g : Forest} → KnownAt table row g → k ≡ below_in table row
    → StandsTo table (row + 1) (row + 1 + k) (inside_at g)
value_inside {g = g} v e = rw (e, (value_row v).below) (inside g v.some v.stands)

-- What a loop along the rows inside a value keeps, whatever the table holds: it is past the value's row, its end is a row, and the output is as long as before.
pub record Passing (row end m : ℕ) (old new : List ℕ) : Type 0 where
  pub later : row < m
  pub near : end ≤ last_row
  pub long : length new ≡ length old

-- Of the bytes `total` that go into `old` from `at` on, those of the values from row m up to `end` are left.
pub record Walk (table : List ℕ) (end : ℕ) (rest : Forest → Bool → List ℕ) (old : List ℕ) (at : ℕ) (total new : List ℕ) (to : ℕ) (first : Bool) (m : ℕ)
    : Type 0 where
  pub values : Forest
  pub kinds : Kinds values
  pub standing : StandsTo table m end values
  pub left : BytesLeft old at total new to (rest values first)

module _ {table : List ℕ} {end : ℕ} {rest : Forest → Bool → List ℕ} {old : List ℕ} {at : ℕ} {total : List ℕ} where
  unfoldable pub walk_start : {row : ℕ} {g : Forest} (first : Bool) → KnownAt table row g → end ≡ row + 1 + below_in table row
      → {new : List ℕ} {to : ℕ} → BytesLeft old at total new to (rest (inside_at g) first) → Walk table end rest old at total new to first (row + 1)
  walk_start {row} {g} first v e l =
      record { values = inside_at g; kinds = inside_kinds g v.kinds; standing = rw (e, (value_row v).below) (inside g v.some v.stands); left = l }

  module _ {new : List ℕ} {to : ℕ} {first : Bool} {m : ℕ} (w : Walk table end rest old at total new to first m) where
    -- the value at hand
    pub walk_here : m < end → KnownAt table m w.values
    walk_here h = record { some = some_at w.values w.standing h; kinds = w.kinds; stands = w.standing.stands }

    -- it is written
    unfoldable pub walk_on : m < end → (next : ℕ) → next ≡ m + 1 + below_in table m → {new' : List ℕ} {to' : ℕ} {first' : Bool}
        → BytesLeft old at total new' to' (rest (rest_at w.values) first') → Walk table end rest old at total new' to' first' next
    walk_on h next e l =
        record {
          values = rest_at w.values;
          kinds = rest_kinds w.values w.kinds;
          standing = rw (e, (value_row (walk_here h)).below) (after w.values (walk_here h).some w.standing);
          left = l;
        }

    -- none is left
    pub walk_end : end ≤ m → BytesLeft old at total new to (rest none first)
    walk_end h = rw (none_at w.values w.standing h) at w.left
