-- `json_reader::rows::put_some` meets its contract: stores in a row are `sets`, and past the end of a table both change nothing. Assumes nothing.
use mathlib.Core.Path.{sym}
use Prim.Native.Nat.{◌*◌}
use native.Mathlib.Numerals.{towards_suc}
use Rattle.laws.proofs.Sets.{sets_out}
use Rattle.text.specs.Limits.{row_words}
use Rattle.text.specs.Tree.{row_of}
use Rattle.json_reader.proofs.rows.put_some.Goals as goal

-- a row that is past the table's end
pub returns-then-table-at : goal.returns-then-table-at
returns-then-table-at c =
    let a = c.args in
    sym (sets_out (row_of a.kind a.ns a.ne a.from a.to a.below 0 0) a.table.now (a.row * row_words) c.if-table-at.true)

pub returns : goal.returns
returns c =
    rw (
      c.put_word-8.ensures,
      c.put_word-7.ensures,
      c.put_word-6.ensures,
      c.put_word-5.ensures,
      c.put_word-4.ensures,
      c.put_word-3.ensures,
      c.put_word-2.ensures,
      c.put_word.ensures,
    )
    (simp towards_suc)
