-- `json_reader::rows::put_word` meets its contract: past the end of a table `set` changes nothing. Assumes nothing.
use mathlib.Core.Path.{sym}
use native.Mathlib.Omega.{arith}
use lib.Seq.{set_out}
use Rattle.json_reader.proofs.rows.put_word.Goals as goal

pub returns-else-at-table : goal.returns-else-at-table
returns-else-at-table c = sym (set_out c.args.table.now c.args.at c.args.word (omega arith))
