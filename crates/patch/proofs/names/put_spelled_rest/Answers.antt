-- `patch::names::put_spelled_rest` meets its contract: what is left to write are the bytes that the cursor has still to hand out, and the quote.
-- Assumes nothing.
use mathlib.Core.Path.{◌≡◌, ap, ◌∙◌}
use mathlib.Core.List.{[], ◌∷◌, append_assoc}
use native.Mathlib.Omega.{arith}
use lib.ListN.{length}
use Rattle.text.specs.Writing.{spelled_byte, spelled_bytes}
use Rattle.json_reader.specs.Cursors.{rest}
use Rattle.pointers.specs.Parts.{part_left}
use Rattle.pointers.proofs.Laws.Parts.{taken, over}
use Rattle.patch.specs.Spelled.{spelled_rest}
use Rattle.output.proofs.Bytes.{left_all, left_on, left_as, left_last, left_length}
use Rattle.patch.proofs.names.put_spelled_rest.Goals as goal

pub loop-b-init : goal.loop-b-init
loop-b-init c = left_all

pub returns : goal.returns
returns c =
    let none = over c.args.key.now c.loop-b.c c.part_byte.ensures.result_value c.in_default.is in
    left_last (34 ∷ []) (left_as (ap spelled_rest none) c.loop-b.invariant) c.put_byte.ensures

-- the byte that is handed out, and those after it
handed : (c : goal.After-slice_known-in-Some-1) → let key = c.args.key.now in
    part_left (rest key c.loop-b.c) ≡ c.in-Some.b ∷ part_left (rest key c.in-Some.on)
handed c =
    taken c.args.key.now c.loop-b.c c.part_byte.ensures.result_value c.in-Some.is

pub loop-b-smaller : goal.loop-b-smaller
loop-b-smaller c = omega (arith, ap length (handed c))

pub loop-b-preserved : goal.loop-b-preserved
loop-b-preserved c =
    let n = part_left (rest c.args.key.now c.in-Some.on) in
    left_on (spelled_byte c.in-Some.b) (spelled_rest n)
    (left_as (ap spelled_rest (handed c) ∙ append_assoc (spelled_byte c.in-Some.b) (spelled_bytes n) (34 ∷ [])) c.loop-b.invariant)
    c.put_spelled_byte-p.ensures
