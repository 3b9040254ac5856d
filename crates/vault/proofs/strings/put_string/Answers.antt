-- `vault::strings::put_string` meets its contract: a run that spells itself, and then a byte that may not, in turn. Assumes nothing.
use mathlib.Core.Path.{◌≡◌, ap, ◌∙◌}
use mathlib.Core.List.{List, [], ◌∷◌, ◌++◌, append_assoc}
use Prim.Native.Nat.{ℕ, ◌+◌, ◌≤◌}
use native.Mathlib.Omega.{arith}
use lib.ListN.{length, drop, drop_of_length-le}
use Rattle.laws.specs.Lists.{part_of}
use Rattle.text.specs.Writing.{spelled_bytes}
use Rattle.output.proofs.Bytes.{left_all, left_on, left_as, left_last, left_length, wrote_then}
use Rattle.vault.specs.Strings.{spelled_at}
use Rattle.vault.proofs.Spelling.{own_run, spelled_next}
use Rattle.vault.proofs.strings.put_string.Invariants.{left}
use Rattle.vault.proofs.strings.put_string.Goals as goal

pub loop-i-init : goal.loop-i-init
loop-i-init c = left_all

-- the bytes at the start of what is left stand for themselves
run : (c : goal.After-slice_known-in-loop-i-2-1) → let w = c.args.content.now in let i = c.loop-i.i in let e = i + c.own_len.result in
    (e ≤ length w) × (spelled_bytes (drop i w) ≡ part_of w i e ++ spelled_bytes (drop e w))
run c = own_run c.args.content.now c.loop-i.i (omega (arith, c.loop-i-test.true)) c.own_len.ensures

pub loop-i-smaller : goal.loop-i-smaller
loop-i-smaller c = omega (arith, c.loop-i-test.true)

pub loop-i-preserved : goal.loop-i-preserved
loop-i-preserved c =
    let w = c.args.content.now in
    let i = c.loop-i.i in
    let e = i + c.own_len.result in
    let own = (run c).1 in
    let is : left w i ≡ part_of w i e ++ left w e =
    ap (λ (v : List ℕ). v ++ (34 ∷ [])) own ∙ append_assoc (part_of w i e) (spelled_bytes (drop e w)) (34 ∷ []) in
    let on : left w e ≡ spelled_at w e ++ left w (e + 1) =
    ap (λ (v : List ℕ). v ++ (34 ∷ [])) (spelled_next w e)
    ∙ append_assoc (spelled_at w e) (spelled_bytes (drop (e + 1) w)) (34 ∷ []) in
    let after = left_on (part_of w i e) (left w e) (left_as is c.loop-i.invariant) c.put_run-p.ensures in
    left_on (spelled_at w e) (left w (e + 1)) (left_as on after) c.put_spelled_at-p.ensures

pub shape_of-out : goal.shape_of-out
shape_of-out c = c.put_byte.auto.out ∙ left_length c.loop-i.invariant ∙ c.put_byte-p.auto.out

pub returns : goal.returns
returns c =
    let w = c.args.content.now in
    let none : left w c.loop-i.i ≡ 34 ∷ [] = ap (λ (v : List ℕ). spelled_bytes v ++ (34 ∷ [])) (drop_of_length-le w c.loop-i-test.false) in
    wrote_then (34 ∷ []) (left w 0) c.put_byte-p.ensures (left_last (34 ∷ []) (left_as none c.loop-i.invariant) c.put_byte.ensures)

pub overflow_add-i : goal.overflow_add-i
overflow_add-i c = omega (arith, (run c).0)
