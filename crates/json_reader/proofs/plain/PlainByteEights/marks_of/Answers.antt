-- `json_reader::plain::PlainByte::marks_of` meets its contract: no sum wraps, and the marks are those of `plain_marked`. Assumes nothing.
use native.Mathlib.Omega.{arith}
use Rattle.json_reader.proofs.Marks.{xor_seven, plain_marked}
use Rattle.json_reader.proofs.plain.PlainByteEights.marks_of.Goals as goal

pub overflow_add-no_back : goal.overflow_add-no_back
overflow_add-no_back c = omega (arith, xor_seven c.args.w 0x5C5C5C5C5C5C5C5C (omega arith))

pub returns : goal.returns
returns c = plain_marked c.args.w
