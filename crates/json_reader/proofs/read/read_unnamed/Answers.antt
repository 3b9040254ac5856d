-- `json_reader::read::read_unnamed` meets its contract: a store without words says that names aren't compared. Assumes nothing.
use native.Mathlib.Omega.{arith}
use Rattle.text.specs.Limits.{base, loose}
use Rattle.text.proofs.Fewer.{long_text}
use Rattle.json_reader.proofs.read.read_unnamed.Goals as goal

pub returns-then-text-gt-BYTES : goal.returns-then-text-gt-BYTES
returns-then-text-gt-BYTES c = long_text (loose base) c.args.text.now c.if-text-gt-BYTES.true

pub read_whole-requires : goal.read_whole-requires
read_whole-requires c = (record { short = omega arith; enough = λ h. absurd (omega arith); most = omega arith }, omega arith)
