-- `fields::places::name_at` meets its contract: the part between the head and the next field. Assumes nothing.
use Rattle.fields.specs.Survey.{name_at}
use Rattle.fields.proofs.places.name_at.Goals as goal

pub returns : goal.returns
unfolding name_at
returns c = rw (← c.next_at-end.ensures.value) c.slice.ensures
