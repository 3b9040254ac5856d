-- The loop's invariant: no more values were passed than rows, and of all values those from `at` on are left. Assumes nothing.
use native.Mathlib.Omega.{arith}
use Rattle.json_reader.proofs.Seeking.{row_after_lem}
use Rattle.patch.proofs.Listing.Filling.{count_start, count_on, count_end}
use Rattle.patch.proofs.entries.count.Goals as goal

pub loop-at-init : goal.loop-at-init
loop-at-init c = (omega arith, count_start _ _ _)

pub overflow_add-n : goal.overflow_add-n
overflow_add-n c = omega (arith, c.loop-at.invariant.0, c.loop-at-test.true)

pub loop-at-smaller : goal.loop-at-smaller
loop-at-smaller c = omega (arith, row_after_lem _ _ c.next_row-at.ensures (omega arith))

pub loop-at-preserved : goal.loop-at-preserved
loop-at-preserved c =
    let loop = c.loop-at in (
      omega (arith, loop.invariant.0, row_after_lem _ _ c.next_row-at.ensures (omega arith)),
      λ f h. rw (row_after_lem _ _ c.next_row-at.ensures (omega arith)) (count_on (loop.invariant.1 f h) c.loop-at-test.true),
    )

pub returns : goal.returns
returns c = λ f h. count_end (c.loop-at.invariant.1 f h) (omega arith)
