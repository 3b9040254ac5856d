-- `pieces::values::opens` meets its contract: the depth is the number of open brackets (`opened_length`), and the bit is pushed (`opened_push`). Assumes nothing.
use native.Mathlib.Omega.{arith}
use borrow.Author.Rules.{rules}
use Rattle.laws.proofs.Picks.{picks}
use Rattle.wire.specs.Held.{spot_at, told_at, state_at}
use Rattle.wire.specs.Machine.{counted, opens}
use Rattle.wire.proofs.Fits.{opened_length}
use Rattle.pieces.proofs.Opened.{opened_push}
use Rattle.pieces.proofs.values.opens.Goals as goal

pub overflow_cast-t-4 : goal.overflow_cast-t-4
overflow_cast-t-4 c = search rules

pub told-requires : goal.told-requires
told-requires c = search rules

pub returns-then-h : goal.returns-then-h
unfolding opens state_at told_at
returns-then-h c = rw (c.told.ensures, opened_length) (search picks)

pub overflow_cast-t-4-2 : goal.overflow_cast-t-4-2
overflow_cast-t-4-2 c = search rules

pub told-requires-then-h-2 : goal.told-requires-then-h-2
told-requires-then-h-2 c = search rules

pub returns-then-h-2 : goal.returns-then-h-2
unfolding opens counted state_at told_at
returns-then-h-2 c = rw (c.told-then-h-2.ensures, opened_length) (search picks)

pub overflow_add-result : goal.overflow_add-result
overflow_add-result c = search rules

pub overflow_add-result-2 : goal.overflow_add-result-2
overflow_add-result-2 c = search rules

pub overflow_mul-result : goal.overflow_mul-result
overflow_mul-result c = search rules

pub overflow_add-result-3 : goal.overflow_add-result-3
overflow_add-result-3 c = search rules

pub returns : goal.returns
unfolding opens counted state_at spot_at
returns c =
    let a = c.args in
    rw (opened_length, opened_push a.h.depth a.h.opened a.bit (omega arith) (omega arith)) (search picks)
