-- `json_reader::rows::link` meets its contract: two stores in a row are `sets`, and past the end of a table both change nothing. Assumes nothing.
use native.Mathlib.Omega.{arith}
use native.Mathlib.Numerals.{towards_suc}
use lib.ListN.{length-set}
use Rattle.json_reader.proofs.rows.link.Goals as goal

pub returns-then-table-at : goal.returns-then-table-at
returns-then-table-at c = rw (c.put_word-then-table-at.ensures, c.put_word.ensures) (simp towards_suc)

pub bounds-table-at-2 : goal.bounds-table-at-2
bounds-table-at-2 c = simp length-set (omega arith)

pub returns : goal.returns
returns c = simp towards_suc
