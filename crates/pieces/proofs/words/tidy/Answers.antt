-- `pieces::words::tidy` meets its contract: what it keeps at each kind of spot is what the words of that state have. Assumes nothing.
use native.Mathlib.Omega.{arith}
use Rattle.pieces.proofs.Tidy.{low_held, text_held, key_held}
use Rattle.pieces.proofs.words.tidy.Goals as goal

-- between tokens, in a literal, in a number
pub returns-then-h-lt-TEXTS : goal.returns-then-h-lt-TEXTS
returns-then-h-lt-TEXTS c =
    rw (c.«open».ensures, c.low_bits.ensures) (low_held c.args.h (omega arith))

-- in a string that is a value
pub returns-then-h-lt-KEYS : goal.returns-then-h-lt-KEYS
returns-then-h-lt-KEYS c =
    rw (c.inside.ensures, c.low_bits.ensures, c.inner_at.ensures)
    (text_held c.args.h (omega arith) (omega arith))

-- in a name
pub returns : goal.returns
returns c =
    rw (c.inside-2.ensures, c.low_bits.ensures, c.inner_at-2.ensures)
    (key_held c.args.h (omega arith) (omega arith))
