-- `pointers::parts::written_end` meets its contract: each turn passes one byte more. The measure is what is left of the key.
-- Assumes nothing.
use Prim.Native.Nat.{◌<◌}
use mathlib.Core.Path.{◌∙◌}
use native.Mathlib.Omega.{arith}
use lib.ListN.{length}
use Rattle.laws.proofs.Places.{inside}
use Rattle.text.specs.Text.{byte_at}
use Rattle.pointers.specs.Parts.{no_byte, one_more}
use Rattle.pointers.proofs.parts.written_end.Goals as goal

-- a byte stands at the place
byte : (c : goal.Else-b-eq-OVER) → byte_at c.args.key.now c.loop-from.at < 256
byte c = let p = c.peek-b in omega (arith, p.ensures.value, p.ensures.small)

pub loop-from-preserved : goal.loop-from-preserved
loop-from-preserved c =
    one_more c.loop-from.invariant (byte c) (λ z. c.if-b-eq-BACKSLASH.false (c.peek-b.ensures.value ∙ z)) (λ z. c.if-b-stop.false (c.peek-b.ensures.value ∙ z))

pub loop-from-init : goal.loop-from-init
loop-from-init c = no_byte

pub peek-b-requires : goal.peek-b-requires
peek-b-requires c = tt

pub returns-then-b-stop : goal.returns-then-b-stop
returns-then-b-stop c = c.loop-from.invariant

in_key : (c : goal.Else-b-eq-OVER) → c.loop-from.at < length c.args.key.now
in_key c = inside c.args.key.now c.loop-from.at (byte c)

pub overflow_add-at : goal.overflow_add-at
overflow_add-at c = omega (arith, in_key c)

pub loop-from-smaller : goal.loop-from-smaller
loop-from-smaller c = omega (arith, in_key c)
