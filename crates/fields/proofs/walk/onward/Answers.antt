-- `fields::walk::onward` meets its contract: the tests pick the case of `onward_at`. Assumes nothing.
use Rattle.laws.proofs.Picks.{picks}
use Rattle.fields.specs.Survey.{onward_at}
use Rattle.fields.proofs.walk.onward.Goals as goal

pub returns-in-7 : goal.returns-in-7
unfolding onward_at
returns-in-7 c = rw (← c.peek.ensures.value) (search picks)

pub returns-in_default : goal.returns-in_default
unfolding onward_at
returns-in_default c = rw (← c.peek.ensures.value) (search picks)

pub returns-in_default-2 : goal.returns-in_default-2
unfolding onward_at
returns-in_default-2 c = rw (← c.peek.ensures.value) (search picks)
