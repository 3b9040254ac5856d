-- `json_reader::read::read_rows` meets its contract. Assumes nothing.
use Rattle.text.specs.Limits.{base}
use Rattle.text.specs.Whole.{read_of}
use Rattle.json_reader.proofs.Endings.{counted}
use Rattle.json_reader.proofs.read.read_rows.Goals as goal

pub keep_rows-requires : goal.keep_rows-requires
keep_rows-requires c =
    let a = c.args in
    let read = c.read_sized-read in
    counted (read_of base a.text.now) a.table.now read.new.table read.result read.ensures
