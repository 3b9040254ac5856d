-- `json_reader::plain::plain_bytes` meets its contract: zeros below the lowest mark, eight for each byte (`counted`). Assumes nothing.
use native.Mathlib.Omega.{arith}
use Rattle.json_reader.proofs.Marks.{few, counted}
use Rattle.json_reader.proofs.plain.plain_bytes.Goals as goal

pub overflow_cast-result : goal.overflow_cast-result
overflow_cast-result c = omega (arith, few c.marks_of.result)

pub returns : goal.returns
returns c = let m = c.marks_of in (few m.result, m.ensures _ (few m.result) (counted m.result))
