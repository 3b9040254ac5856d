-- `pointers::parts::own_end` meets its contract: each turn passes one byte more. The measure is what is left of the key. Assumes nothing.
use Prim.Native.Nat.{◌<◌}
use native.Mathlib.Decide.{ℕ_discrete}
use native.Mathlib.Omega.{arith}
use lib.ListN.{length}
use Rattle.laws.proofs.Places.{inside}
use Rattle.text.specs.Text.{byte_at}
use Rattle.json_reader.specs.Plain.{Own}
use Rattle.pointers.proofs.parts.own_end.Goals as goal

-- the byte at hand is such a one
here : (c : goal.In-loop-at) → Own (byte_at c.args.key.now c.loop-at.at)
here c = rw c.peek.ensures.value at (c.is_own_byte.ensures.yes c.loop-at-test.true)

pub loop-at-preserved : goal.loop-at-preserved
loop-at-preserved c =
    let l = c.loop-at in (
      omega (arith, l.invariant.0),
      λ i x y. elim (ℕ_discrete i l.at) [
        | yes e ↦ rw e (here c)
        | no e ↦ l.invariant.1 i x (omega arith)
      ],
    )

pub returns : goal.returns
returns c =
    let l = c.loop-at in
    record { later = l.invariant.0; own = l.invariant.1; ends = rw c.peek.ensures.value at (c.is_own_byte.ensures.no c.loop-at-test.false) }

pub loop-at-init : goal.loop-at-init
loop-at-init c = (omega arith, λ i x y. absurd (omega arith))

pub peek-requires : goal.peek-requires
peek-requires c = tt

pub is_own_byte-requires : goal.is_own_byte-requires
is_own_byte-requires c = tt

in_key : (c : goal.In-loop-at) → c.loop-at.at < length c.args.key.now
in_key c =
    let small = (here c).plain.ascii in
    inside c.args.key.now c.loop-at.at (omega arith)

pub overflow_add-at : goal.overflow_add-at
overflow_add-at c = omega (arith, in_key c)

pub loop-at-smaller : goal.loop-at-smaller
loop-at-smaller c = omega (arith, in_key c)
