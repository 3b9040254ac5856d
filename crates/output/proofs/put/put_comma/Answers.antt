-- `output::put::put_comma` meets its contract. Assumes nothing.
use native.Mathlib.Omega.{arith}
use Rattle.output.proofs.Bytes.{wrote_none}
use Rattle.output.proofs.put.put_comma.Goals as goal

pub returns-then-first : goal.returns-then-first
returns-then-first c = rw c.if-first.true (wrote_none c.args.at (omega arith))

pub returns : goal.returns
returns c = rw c.if-first.false c.put_byte.ensures
