-- `json_reader::plain::OwnByte::marks_of` meets its contract: no sum wraps, and the marks are those of `own_marked`. Assumes nothing.
use native.Mathlib.Omega.{arith}
use Rattle.json_reader.proofs.Marks.{xor_seven, own_marked}
use Rattle.json_reader.proofs.plain.OwnByteEights.marks_of.Goals as goal

pub overflow_add-no_slash : goal.overflow_add-no_slash
overflow_add-no_slash c = omega (arith, xor_seven c.args.w 0x2F2F2F2F2F2F2F2F (omega arith))

pub overflow_add-no_tilde : goal.overflow_add-no_tilde
overflow_add-no_tilde c = omega (arith, xor_seven c.args.w 0x7E7E7E7E7E7E7E7E (omega arith))

pub returns : goal.returns
returns c = own_marked c.args.w c.marks_of.ensures
