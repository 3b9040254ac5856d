-- `json_reader::rows::put_row` meets its contract: stores in a row are `sets`. Assumes nothing.
use mathlib.Core.Path.{refl}
use native.Mathlib.Omega.{arith}
use native.Mathlib.Numerals.{towards_suc}
use lib.ListN.{length-set}
use Rattle.json_reader.proofs.rows.put_row.Goals as goal

pub returns-then-table-at : goal.returns-then-table-at
returns-then-table-at c = c.put_some.ensures

pub bounds-table-at-2 : goal.bounds-table-at-2
bounds-table-at-2 c = simp length-set (omega arith)

pub bounds-table-at-3 : goal.bounds-table-at-3
bounds-table-at-3 c = simp length-set (omega arith)

pub bounds-table-at-4 : goal.bounds-table-at-4
bounds-table-at-4 c = simp length-set (omega arith)

pub bounds-table-at-5 : goal.bounds-table-at-5
bounds-table-at-5 c = simp length-set (omega arith)

pub bounds-table-at-6 : goal.bounds-table-at-6
bounds-table-at-6 c = simp length-set (omega arith)

pub bounds-table-at-7 : goal.bounds-table-at-7
bounds-table-at-7 c = simp length-set (omega arith)

pub bounds-table-at-8 : goal.bounds-table-at-8
bounds-table-at-8 c = simp length-set (omega arith)

pub shape_of-table : goal.shape_of-table
shape_of-table c = simp length-set refl

pub returns : goal.returns
returns c = simp towards_suc
