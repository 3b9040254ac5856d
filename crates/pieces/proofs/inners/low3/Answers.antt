-- `pieces::inners::low3` meets its contract: a digit is at most 16, so the value of two fits. Assumes nothing.
use native.Mathlib.Omega.{arith}
use Rattle.wire.proofs.Strings.{digit_most}
use Rattle.laws.proofs.Picks.{picks}
use Rattle.wire.specs.Inners.{move_of}
use borrow.Author.Rules.{rules}
use Rattle.pieces.proofs.inners.low3.Goals as goal

pub digit-d-requires : goal.digit-d-requires
digit-d-requires c = search rules

pub returns-then-d-eq16 : goal.returns-then-d-eq16
unfolding move_of
returns-then-d-eq16 c = rw (← c.digit-d.ensures) (search picks)

pub overflow_mul-w : goal.overflow_mul-w
overflow_mul-w c = search rules

pub overflow_add-w : goal.overflow_add-w
overflow_add-w c = omega (arith, digit_most c.args.b)

pub returns : goal.returns
unfolding move_of
returns c = rw (← c.digit-d.ensures) (search picks)
