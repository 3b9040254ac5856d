-- `card::rules::badly_separated` meets its contract. Assumes nothing.
use Rattle.card.proofs.Judging.Separators.{separated}
use Rattle.card.proofs.rules.badly_separated.Goals as goal

pub returns-then-m : goal.returns-then-m
returns-then-m c = λ ss e. rw (← separated c.args.m ss e c.args.ordered, c.if-m.true)

pub returns-then-m-2 : goal.returns-then-m-2
returns-then-m-2 c = λ ss e. rw (← separated c.args.m ss e c.args.ordered, c.if-m.false, c.if-m-2.true)

pub returns-else-m-2 : goal.returns-else-m-2
returns-else-m-2 c = λ ss e. rw (← separated c.args.m ss e c.args.ordered, c.if-m.false, c.if-m-2.false)
