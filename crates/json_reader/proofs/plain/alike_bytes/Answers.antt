-- `json_reader::plain::alike_bytes` meets its contract: below the lowest mark and the lowest bit in which the numbers differ all bytes are in the class and the same
-- (`alike_marked`). Assumes nothing.
use native.Mathlib.Omega.{arith}
use lib.Bits.{bit_or, bit_xor}
use Rattle.json_reader.proofs.Marks.{few, counted, alike_marked}
use Rattle.json_reader.proofs.plain.alike_bytes.Goals as goal

pub returns : goal.returns
returns g c =
    let a = c.args in
    let m = c.marks_of.result in
    let ends = bit_or m (bit_xor a.v a.w) in
    (few ends, alike_marked g.C.Eights.holds m a.v a.w _ c.marks_of.ensures (few ends) (counted ends))

pub overflow_cast-result : goal.overflow_cast-result
overflow_cast-result g c = omega (arith, few (bit_or c.marks_of.result (bit_xor c.args.v c.args.w)))
