-- `pieces::inners::low4` meets its contract: a digit is at most 16, so the pair's code point fits. Assumes nothing.
use Rattle.laws.proofs.Picks.{picks}
use Rattle.wire.specs.Inners.{move_of}
use native.Mathlib.Omega.{arith}
use Rattle.wire.proofs.Strings.{digit_most}
use borrow.Author.Rules.{rules}
use Rattle.pieces.proofs.inners.low4.Goals as goal

pub digit-d-requires : goal.digit-d-requires
digit-d-requires c = search rules

pub returns-then-d-eq16 : goal.returns-then-d-eq16
unfolding move_of
returns-then-d-eq16 c = rw (← c.digit-d.ensures) (search picks)

pub overflow_mul-high : goal.overflow_mul-high
overflow_mul-high c = search rules

pub overflow_add-high : goal.overflow_add-high
overflow_add-high c = search rules

pub overflow_mul-v : goal.overflow_mul-v
overflow_mul-v c = search rules

pub overflow_add-v : goal.overflow_add-v
overflow_add-v c = omega (arith, digit_most c.args.b)

pub overflow_add-high-2 : goal.overflow_add-high-2
overflow_add-high-2 c = omega (arith, digit_most c.args.b)

pub check-requires : goal.check-requires
check-requires c = search rules

pub returns : goal.returns
unfolding move_of
returns c = rw (← c.digit-d.ensures, ← c.check.ensures) (search picks)
