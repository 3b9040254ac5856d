-- The loop's invariant: the list so far, with the rows of the values that stand from `at` on, is that of all.
-- Assumes nothing.
use mathlib.Core.Path.{refl}
use native.Mathlib.Omega.{arith}
use lib.ListN.{length-set}
use Rattle.json_reader.proofs.Seeking.{row_after_lem}
use Rattle.patch.proofs.Listing.Filling.{one_left, fill_start, fill_on, fill_end}
use Rattle.patch.proofs.entries.collect.Goals as goal

pub returns-then-end-gt-MOST_ENTRIES : goal.returns-then-end-gt-MOST_ENTRIES
returns-then-end-gt-MOST_ENTRIES c = record { inside = omega arith; all = λ f h few room. absurd (omega arith) }

pub loop-at-init : goal.loop-at-init
loop-at-init c = (refl, omega arith, fill_start _ _ _ _)

pub shape_of-rows-then-rows-n : goal.shape_of-rows-then-rows-n
shape_of-rows-then-rows-n c = c.loop-at.invariant.0

pub returns-then-rows-n : goal.returns-then-rows-n
returns-then-rows-n c =
    let inv = c.loop-at.invariant in
    record { inside = inv.1; all = λ f h few room. absurd (omega (arith, one_left (inv.2 f h).passed c.loop-at-test.true, c.if-rows-n.true)) }

pub loop-at-smaller : goal.loop-at-smaller
loop-at-smaller c = omega (arith, row_after_lem _ _ c.next_row-at.ensures (omega arith))

pub loop-at-preserved : goal.loop-at-preserved
loop-at-preserved c =
    let loop = c.loop-at in (
      rw length-set loop.invariant.0,
      rw length-set (omega (arith, c.if-rows-n.false)),
      λ f h. rw (row_after_lem _ _ c.next_row-at.ensures (omega arith)) (fill_on loop.invariant.2 f h c.loop-at-test.true (omega arith)),
    )

pub shape_of-rows : goal.shape_of-rows
shape_of-rows c = c.loop-at.invariant.0

pub returns : goal.returns
returns c =
    let inv = c.loop-at.invariant in
    record { inside = inv.1; all = λ f h few room. fill_end inv.2 f h (omega arith) }
