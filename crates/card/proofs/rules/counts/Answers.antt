-- `card::rules::counts` meets its contract. Assumes nothing.
use mathlib.Core.Path.{◌∙◌}
use Rattle.card.specs.RuleTable.{is_counted}
use Rattle.card.proofs.Judging.Values.{itself, there}
use Rattle.card.proofs.rules.counts.Goals as goal

pub returns-then-not-is_empty : goal.returns-then-not-is_empty
unfolding is_counted
returns-then-not-is_empty c = λ f s. rw (← c.is_empty.ensures, c.if-not-is_empty.true) (c.is_some.ensures ∙ there itself _ _ _ _ (c.present.ensures f s))

pub returns-else-not-is_empty : goal.returns-else-not-is_empty
unfolding is_counted
returns-else-not-is_empty c = λ f s. rw (← c.is_empty.ensures, c.if-not-is_empty.false)
