-- `json_reader::plain::plain_end` meets its contract: each turn goes on over plain bytes (`plains_chars`). The measure is what is left of the text. Assumes nothing.
use mathlib.Core.Path.{◌≡◌}
use Prim.Native.Nat.{◌+◌}
use native.Mathlib.Omega.{arith}
use Rattle.text.specs.Chars.{Chars, stay}
use Rattle.json_reader.proofs.PlainRuns.{chars_join, plains_chars}
use Rattle.json_reader.proofs.plain.plain_end.Goals as goal

-- the bytes that were counted lead on
on : (c : goal.Else-run-lt8)
    → let l = c in
    let s = c in
    Chars s.args.text.now s.args.from (l.loop-at.at + c.plain_bytes-run.result)
on c =
    let l = c in
    let k = c in
    let p = c.plain_bytes-run.ensures in
    chars_join l.loop-at.invariant
    (plains_chars k.args.text.now (λ i. omega (arith, k.type_inv.text i)) 8 c.plain_bytes-run.result l.loop-at.at p.0
    (omega arith) (rw c.eight.ensures at p.1))

-- all eight
pub loop-at-preserved : goal.loop-at-preserved
loop-at-preserved c = let e : c.plain_bytes-run.result ≡ 8 = omega (arith, c.plain_bytes-run.ensures.0) in rw e at (on c)

pub returns-then-peek-gt127 : goal.returns-then-peek-gt127
returns-then-peek-gt127 c = stay

pub returns-then-text-lt8 : goal.returns-then-text-lt8
returns-then-text-lt8 c = stay

pub loop-at-init : goal.loop-at-init
loop-at-init c = stay

-- the bytes that were counted lead on
on_2 : (c : goal.Then-run-lt8)
    → let l = c in
    let s = c in
    Chars s.args.text.now s.args.from (l.loop-at.at + c.plain_bytes-run.result)
on_2 c =
    let l = c in
    let k = c in
    let p = c.plain_bytes-run.ensures in
    chars_join l.loop-at.invariant
    (plains_chars k.args.text.now (λ i. omega (arith, k.type_inv.text i)) 8 c.plain_bytes-run.result l.loop-at.at p.0
    (omega arith) (rw c.eight.ensures at p.1))

pub returns-then-run-lt8 : goal.returns-then-run-lt8
returns-then-run-lt8 c = on_2 c
