-- `patch::marks::advance_each` meets its contract: the run has gone on up to the place at hand. Assumes nothing.
use Prim.Native.Nat.{◌<◌}
use mathlib.Core.Path.{◌≡◌, refl}
use native.Mathlib.Omega.{arith}
use lib.ListN.{length, length-set}
use Rattle.patch.proofs.Listing.Marks.{advance_start, advance_one}
use Rattle.patch.proofs.marks.advance_each.Goals as goal

-- the place at hand is one of both lists
within : (c : goal.After-next_cue) → c.loop-i.i < length c.loop-i.cues
within c = omega (arith, c.loop-i.invariant.0, c.requires.1, c.loop-i-test.true)

pub loop-i-preserved : goal.loop-i-preserved
loop-i-preserved c =
    let inv = c.loop-i.invariant in (
      rw length-set inv.0,
      omega (arith, inv.1),
      omega (arith, c.loop-i-test.true),
      advance_one inv.3 inv.1 (within c) (rw c.key_at-key.ensures at c.next_cue.ensures),
    )

pub returns : goal.returns
returns c =
    let inv = c.loop-i.invariant in
    let all : c.loop-i.i ≡ c.args.hi = omega (arith, inv.2, c.loop-i-test.false) in
    rw (← all) inv.3

pub loop-i-init : goal.loop-i-init
loop-i-init c = (refl, omega arith, c.requires.0.0, advance_start _)

listed : (c : goal.In-loop-i)
    → c.loop-i.i < length c.args.rows.now
listed c = omega (arith, c.requires.0.1, c.loop-i-test.true)

pub offset_bounds-rows-i : goal.offset_bounds-rows-i
offset_bounds-rows-i c = omega (arith, listed c, c.well_formed.1.1.0.1)

listed_2 : (c : goal.After-shared_slice_known-in-loop-i-1-unread)
    → c.loop-i.i < length c.args.rows.now
listed_2 c = omega (arith, c.requires.0.1, c.loop-i-test.true)

pub bounds-rows-i : goal.bounds-rows-i
bounds-rows-i c = listed_2 c

pub overflow_cast-rows : goal.overflow_cast-rows
overflow_cast-rows c = omega (arith, c.type_inv.rows c.loop-i.i)

pub key_at-key-requires : goal.key_at-key-requires
key_at-key-requires c = tt

-- the place at hand is one of both lists
within_2 : (c : goal.After-key_at-key) → c.loop-i.i < length c.loop-i.cues
within_2 c = omega (arith, c.loop-i.invariant.0, c.requires.1, c.loop-i-test.true)

pub offset_bounds-cues-i : goal.offset_bounds-cues-i
offset_bounds-cues-i c = omega (arith, within_2 c, c.well_formed.1.1.1.0.1)

-- the place at hand is one of both lists
within_3 : (c : goal.After-slice_known-in-loop-i-1-unread) → c.loop-i.i < length c.loop-i.cues
within_3 c = omega (arith, c.loop-i.invariant.0, c.requires.1, c.loop-i-test.true)

pub bounds-cues-i : goal.bounds-cues-i
bounds-cues-i c = within_3 c

pub overflow_cast-cues : goal.overflow_cast-cues
overflow_cast-cues c = omega (arith, c.type_inv.cues c.loop-i.i)

pub next_cue-requires : goal.next_cue-requires
next_cue-requires c = tt

pub offset_bounds-cues-i-in-loop-i : goal.offset_bounds-cues-i-in-loop-i
offset_bounds-cues-i-in-loop-i c = omega (arith, within c)

pub bounds-cues-i-in-loop-i : goal.bounds-cues-i-in-loop-i
bounds-cues-i-in-loop-i c = within c

pub overflow_step-i : goal.overflow_step-i
overflow_step-i c = omega (arith, within c)

pub loop-i-smaller : goal.loop-i-smaller
loop-i-smaller c = omega (arith, c.loop-i-test.true)

pub shape_of-cues : goal.shape_of-cues
shape_of-cues c = c.loop-i.invariant.0
