-- `json_reader::read::read` meets its contract: behind the rows the table is cleared. Assumes nothing.
use Prim.Native.Nat.{◌*◌, ◌≤◌}
use native.Mathlib.Omega.{arith}
use lib.ListN.{length}
use Rattle.std.proofs.lemmas.Result.{err_from_is_err_and}
use Rattle.text.specs.Limits.{row_words}
use Rattle.json_reader.proofs.Kept.{rows_there, read_cleared, read_refused}
use Rattle.json_reader.proofs.read.read.Goals as goal

pub returns-in_err-n : goal.returns-in_err-n
returns-in_err-n c =
    let p = err_from_is_err_and c.from_residual.result c.from_residual.ensures.1 in
    rw (p.1, p.2) (read_refused c.in_err-n.ensures)

pub returns : goal.returns
returns c = read_cleared c.in_ok-n.ensures (c.fill.ensures.after (λ y e. e))

-- the rows fit
fit : (c : goal.In_ok-n) → c.in_ok-n.n * row_words ≤ length c.read_rows.new.table
fit c = omega (arith, (rows_there c.in_ok-n.ensures).1, c.read_rows.auto.table)

pub overflow_mul-n : goal.overflow_mul-n
overflow_mul-n c = omega (arith, fit c)

pub offset_bounds-table-n : goal.offset_bounds-table-n
offset_bounds-table-n c = omega (arith, fit c)

pub slice_bounds-fill-count : goal.slice_bounds-fill-count
slice_bounds-fill-count c = omega (arith, fit c)

pub slice_bounds-fill-start : goal.slice_bounds-fill-start
slice_bounds-fill-start c = omega (arith, fit c)
