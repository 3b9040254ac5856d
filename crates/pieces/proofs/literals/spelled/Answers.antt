-- `pieces::literals::spelled` meets its contract: an arm for each place of a literal; a number past 7 is the last place. Assumes nothing.
use Rattle.pieces.specs.Turns.{awaited_at, behind_at}
use Rattle.pieces.proofs.Ways.{past, awaited_last, behind_last}
use Rattle.pieces.proofs.literals.spelled.Goals as goal

pub returns-in-0 : goal.returns-in-0
unfolding awaited_at behind_at
returns-in-0 c = rw c.in-0.is c.expect.ensures

pub returns-in-1 : goal.returns-in-1
unfolding awaited_at behind_at
returns-in-1 c = rw c.in-1.is c.expect-in-1.ensures

pub returns-in-2 : goal.returns-in-2
unfolding awaited_at behind_at
returns-in-2 c = rw c.in-2.is c.expect-in-2.ensures

pub returns-in-3 : goal.returns-in-3
unfolding awaited_at behind_at
returns-in-3 c = rw c.in-3.is c.expect-in-3.ensures

pub returns-in-4 : goal.returns-in-4
unfolding awaited_at behind_at
returns-in-4 c = rw c.in-4.is c.expect-in-4.ensures

pub returns-in-5 : goal.returns-in-5
unfolding awaited_at behind_at
returns-in-5 c = rw c.in-5.is c.expect-in-5.ensures

pub returns-in-6 : goal.returns-in-6
unfolding awaited_at behind_at
returns-in-6 c = rw c.in-6.is c.expect-in-6.ensures

pub returns-in-7 : goal.returns-in-7
unfolding awaited_at behind_at
returns-in-7 c = rw c.in-7.is c.expect-in-7.ensures

pub returns-in_default : goal.returns-in_default
returns-in_default c =
    let k = c.args.k in
    let h = past 8 k c.in_default.in_default-own.rest in
    rw (awaited_last k h, behind_last k h) c.expect-in_default.ensures
