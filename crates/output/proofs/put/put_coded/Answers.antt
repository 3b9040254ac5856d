-- `output::put::put_coded` meets its contract. Assumes nothing.
use mathlib.Core.List.{[], ◌∷◌}
use Prim.Native.Nat.{◌/◌, ◌%◌}
use Rattle.laws.specs.Lists.{part_of}
use Rattle.text.specs.Writing.{small_hex}
use Rattle.output.proofs.Bytes.{wrote_then}
use Rattle.output.proofs.put.put_coded.Goals as goal

pub returns : goal.returns
unfolding part_of
returns c =
    let a = c.args in
    let put-run = c.put_run-p in
    let small-hex = c.small_hex in
    let put_byte = c.put_byte-q in
    let small-hex2 = c.small_hex-2 in
    let b = a.b in
    let high = rw small-hex.ensures at put_byte.ensures in
    let low = rw small-hex2.ensures at c.put_byte.ensures in
    wrote_then (92 ∷ 117 ∷ 48 ∷ 48 ∷ small_hex (b / 16) ∷ []) (small_hex (b % 16) ∷ [])
    (wrote_then (92 ∷ 117 ∷ 48 ∷ 48 ∷ []) (small_hex (b / 16) ∷ []) put-run.ensures high) low
