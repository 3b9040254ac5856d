-- `pieces::words::low_bits` meets its contract: the bits of so many brackets are the low ones, and a word has no more than 64. Assumes nothing.
use mathlib.Core.Path.{sym}
use native.Mathlib.Omega.{arith}
use lib.Pow.{pow_pos}
use Rattle.pieces.proofs.Bits.{bits_low, bits_all, one_shl}
use Rattle.pieces.proofs.words.low_bits.Goals as goal

pub returns-then-depth-ge64 : goal.returns-then-depth-ge64
returns-then-depth-ge64 c = let a = c.args in sym (bits_all a.depth a.opened 64 (omega arith) (omega arith))

pub nonzero_rem-result : goal.nonzero_rem-result
nonzero_rem-result c = let depth = c.args.depth in rw (one_shl depth (omega arith)) (pow_pos depth)

pub returns : goal.returns
returns c = let a = c.args in rw (one_shl a.depth (omega arith)) (sym (bits_low a.depth a.opened))
