-- `json_reader::rows::word` meets its contract: where the table has no such word, it is 0. Assumes nothing.
use mathlib.Core.Path.{sym}
use Prim.Native.Nat.{◌+◌, ◌*◌}
use native.Mathlib.Omega.{arith}
use lib.ListN.{get_or-eq_default}
use Rattle.text.specs.Limits.{row_words}
use Rattle.json_reader.proofs.rows.word.Goals as goal

pub returns-then-table-row : goal.returns-then-table-row
returns-then-table-row c =
    let a = c.args in
    sym (get_or-eq_default a.table.now 0 (omega arith))

pub overflow_cast-result : goal.overflow_cast-result
overflow_cast-result c = omega (arith, c.type_inv.table (c.args.row * row_words + c.args.i))

pub returns-else-at-table : goal.returns-else-at-table
returns-else-at-table c =
    let a = c.args in
    sym (get_or-eq_default a.table.now 0 (omega arith))
