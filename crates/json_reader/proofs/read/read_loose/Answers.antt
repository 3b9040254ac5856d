-- `json_reader::read::read_loose` meets its contract. Assumes nothing.
use Rattle.text.specs.Limits.{base, loose}
use Rattle.text.specs.Whole.{read_of}
use Rattle.json_reader.proofs.Endings.{counted}
use Rattle.json_reader.proofs.read.read_loose.Goals as goal

pub keep_rows-requires : goal.keep_rows-requires
keep_rows-requires c =
    let a = c.args in
    let read = c.read_unnamed-read in
    counted (read_of (loose base) a.text.now) a.table.now read.new.table read.result read.ensures
