-- `json_reader::bytes::peek` meets its contract: a byte of the slice is below 256, and inside the slice the default does not matter. Assumes nothing.
use mathlib.Core.Path.{sym}
use native.Mathlib.Omega.{arith}
use lib.ListN.{get_or-eq_default}
use borrow.Author.Rules.{rules}
use Rattle.laws.proofs.Places.{any_default}
use Rattle.json_reader.proofs.bytes.peek.Goals as goal

pub overflow_cast-result : goal.overflow_cast-result
overflow_cast-result c = omega (arith, c.type_inv.text c.args.at)

pub returns-then-at-text : goal.returns-then-at-text
returns-then-at-text c =
    let a = c.args in
    record { value = any_default 0 256 a.text.now a.at (search rules); small = omega (arith, c.type_inv.text a.at) }

pub returns-else-at-text : goal.returns-else-at-text
returns-else-at-text c = record { value = sym (get_or-eq_default c.args.text.now 256 c.if-at-text.false); small = search rules }
