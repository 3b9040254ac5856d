-- `json_reader::plain::eight` meets its contract: each step puts one byte more below. Assumes nothing.
use mathlib.Core.Path.{◌≡◌}
use Prim.Native.Nat.{◌+◌}
use native.Mathlib.Omega.{arith}
use borrow.Author.Rules.{rules}
use Rattle.json_reader.specs.Plain.{packed_at}
use Rattle.json_reader.proofs.plain.eight.Goals as goal

pub returns : goal.returns
unfolding packed_at
returns c =
    let at = c.args.at in
    let two : at + 1 + 1 ≡ at + 2 = omega arith in
    let three : at + 1 + 1 + 1 ≡ at + 3 = omega arith in
    let four : at + 1 + 1 + 1 + 1 ≡ at + 4 = omega arith in
    let five : at + 1 + 1 + 1 + 1 + 1 ≡ at + 5 = omega arith in
    let six : at + 1 + 1 + 1 + 1 + 1 + 1 ≡ at + 6 = omega arith in
    let seven : at + 1 + 1 + 1 + 1 + 1 + 1 + 1 ≡ at + 7 = omega arith in
    rw (seven, six, five, four, three, two) (search rules)
