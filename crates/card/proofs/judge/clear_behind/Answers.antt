-- `card::judge::clear_behind` meets its contract. Assumes nothing.
use Prim.Native.Nat.{◌*◌, ◌≤◌}
use native.Mathlib.Omega.{arith}
use lib.ListN.{length}
use Rattle.text.specs.Limits.{row_words}
use Rattle.card.proofs.Judging.Verdict.{judged_cleared, judged_refused}
use Rattle.card.proofs.judge.clear_behind.Goals as goal

pub returns-in-Ok : goal.returns-in-Ok
returns-in-Ok c =
    λ L t lent h.
    let is = c.in-Ok.is in
    rw is (judged_cleared (rw is at h) (c.fill.ensures.after (λ y e. e)))

pub returns-in_default : goal.returns-in_default
returns-in_default c = λ L t lent h. let is = c.in_default.is in rw is (judged_refused (rw is at h))

-- the rows fit
fit : (c : goal.In-Ok) → c.in-Ok.n * row_words ≤ length c.args.table.now
fit c = rw c.in-Ok.is at c.requires

pub overflow_mul-used : goal.overflow_mul-used
overflow_mul-used c = omega (arith, fit c)

pub offset_bounds-table-used : goal.offset_bounds-table-used
offset_bounds-table-used c = omega (arith, fit c)

pub slice_bounds-fill-count : goal.slice_bounds-fill-count
slice_bounds-fill-count c = omega (arith, fit c)

pub slice_bounds-fill-start : goal.slice_bounds-fill-start
slice_bounds-fill-start c = omega (arith, fit c)
