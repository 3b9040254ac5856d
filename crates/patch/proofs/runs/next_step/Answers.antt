-- `patch::runs::next_step` meets its contract, by its tests. Assumes nothing.
use Rattle.laws.proofs.Picks.{picks}
use Rattle.patch.proofs.runs.next_step.Goals as goal

pub returns-then-step-room : goal.returns-then-step-room
returns-then-step-room c = rw (c.if-reached.false, c.if-past.true) (search picks)

pub returns-then-past : goal.returns-then-past
returns-then-past c = rw (c.if-reached.false, c.if-past.true) (search picks)
