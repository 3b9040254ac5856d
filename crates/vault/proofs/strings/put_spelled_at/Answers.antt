-- `vault::strings::put_spelled_at` meets its contract. Assumes nothing.
use native.Mathlib.Omega.{arith}
use lib.ListN.{length}
use borrow.Author.Tests.{lt-ltb, le-ltb}
use Rattle.output.proofs.Bytes.{wrote_none}
use Rattle.vault.proofs.strings.put_spelled_at.Goals as goal

pub returns-then-i-content : goal.returns-then-i-content
returns-then-i-content c = let a = c.args in rw (lt-ltb a.i (length a.content.now) c.if-i-content.true) c.put_spelled_byte.ensures

pub returns : goal.returns
returns c = let a = c.args in rw (le-ltb a.i (length a.content.now) c.if-i-content.false) (wrote_none a.at (omega arith))
