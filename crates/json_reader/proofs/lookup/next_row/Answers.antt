-- `json_reader::lookup::next_row` meets its contract: past the table nothing is below a row, and the rows of a table are far from the last number. Assumes nothing.
use Prim.Native.Nat.{◌+◌, ◌*◌}
use native.Mathlib.Decide.{dec_le}
use native.Mathlib.Omega.{arith}
use lib.ListN.{length}
use borrow.Author.Rules.{rules}
use Rattle.laws.proofs.Picks.{picks}
use Rattle.text.specs.Limits.{row_words}
use Rattle.json_reader.specs.Lookup.{row_after}
use Rattle.json_reader.proofs.Seeking.{below_past}
use Rattle.json_reader.proofs.lookup.next_row.Goals as goal

pub overflow_add-result-2 : goal.overflow_add-result-2
overflow_add-result-2 c =
    let start = c in
    let table = start.args.table.now in
    let word = c.type_inv.table (start.args.at * row_words + 5) in
    elim (dec_le (length table) start.args.at) [
      | yes le ↦ omega (arith, c.below.ensures, below_past table start.args.at le)
      | no lt ↦ omega (arith, c.below.ensures, word, start.well_formed.0)
    ]

pub returns : goal.returns
unfolding row_after
returns c = rw (← c.below.ensures) (search picks)

pub returns-then-at-eq18446744073709551615 : goal.returns-then-at-eq18446744073709551615
unfolding row_after
returns-then-at-eq18446744073709551615 c = search picks

pub overflow_add-result : goal.overflow_add-result
unfolding row_after
overflow_add-result c = search rules

pub below-requires : goal.below-requires
unfolding row_after
below-requires c = search rules
