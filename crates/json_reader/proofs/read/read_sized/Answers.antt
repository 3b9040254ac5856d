-- `json_reader::read::read_sized` meets its contract: each text by a store of its size, and one over the limit of bytes is refused first. Assumes nothing.
use Rattle.text.specs.Limits.{base}
use Rattle.text.proofs.Fewer.{long_text}
use Rattle.json_reader.proofs.read.read_sized.Goals as goal

pub returns-then-text-gt-BYTES : goal.returns-then-text-gt-BYTES
returns-then-text-gt-BYTES c = long_text base c.args.text.now c.if-text-gt-BYTES.true
