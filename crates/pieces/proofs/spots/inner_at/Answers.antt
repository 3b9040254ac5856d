-- `pieces::spots::inner_at` meets its contract: an arm for each place inside a string; a number past 14 is the last place. Assumes nothing.
use mathlib.Core.Path.{sym}
use Rattle.wire.specs.Held.{inner_at}
use Rattle.pieces.proofs.Ways.{past, inner_last}
use Rattle.pieces.proofs.spots.inner_at.Goals as goal

pub returns-in_default : goal.returns-in_default
returns-in_default c = let a = c.args in sym (inner_last a.k a.from a.bits a.high (past 15 a.k c.in_default.in_default-own.rest))

pub returns-in-0 : goal.returns-in-0
unfolding inner_at
returns-in-0 c = rw c.in-0.is

pub returns-in-1 : goal.returns-in-1
unfolding inner_at
returns-in-1 c = rw c.in-1.is

pub returns-in-2 : goal.returns-in-2
unfolding inner_at
returns-in-2 c = rw c.in-2.is

pub returns-in-3 : goal.returns-in-3
unfolding inner_at
returns-in-3 c = rw c.in-3.is

pub returns-in-4 : goal.returns-in-4
unfolding inner_at
returns-in-4 c = rw c.in-4.is

pub returns-in-5 : goal.returns-in-5
unfolding inner_at
returns-in-5 c = rw c.in-5.is

pub returns-in-6 : goal.returns-in-6
unfolding inner_at
returns-in-6 c = rw c.in-6.is

pub returns-in-7 : goal.returns-in-7
unfolding inner_at
returns-in-7 c = rw c.in-7.is

pub returns-in-8 : goal.returns-in-8
unfolding inner_at
returns-in-8 c = rw c.in-8.is

pub returns-in-9 : goal.returns-in-9
unfolding inner_at
returns-in-9 c = rw c.in-9.is

pub returns-in-10 : goal.returns-in-10
unfolding inner_at
returns-in-10 c = rw c.in-10.is

pub returns-in-11 : goal.returns-in-11
unfolding inner_at
returns-in-11 c = rw c.in-11.is

pub returns-in-12 : goal.returns-in-12
unfolding inner_at
returns-in-12 c = rw c.in-12.is

pub returns-in-13 : goal.returns-in-13
unfolding inner_at
returns-in-13 c = rw c.in-13.is

pub returns-in-14 : goal.returns-in-14
unfolding inner_at
returns-in-14 c = rw c.in-14.is
