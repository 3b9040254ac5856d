-- `fields::walk::values_at` meets its contract: the test picks the case of `values_at`. Assumes nothing.
use Rattle.laws.proofs.Picks.{picks}
use Rattle.fields.specs.Survey.{values_at}
use Rattle.fields.proofs.walk.values_at.Goals as goal

pub returns-then-peek-eq-NAME : goal.returns-then-peek-eq-NAME
unfolding values_at
returns-then-peek-eq-NAME c = rw (← c.peek.ensures.value) (search picks)

pub returns-else-peek-eq-NAME : goal.returns-else-peek-eq-NAME
unfolding values_at
returns-else-peek-eq-NAME c = rw (← c.peek.ensures.value) (search picks)
