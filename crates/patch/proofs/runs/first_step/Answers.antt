-- `patch::runs::first_step` meets its contract, by its test. Assumes nothing.
use Rattle.laws.proofs.Picks.{picks}
use Rattle.patch.proofs.runs.first_step.Goals as goal

pub returns-then-near-hi : goal.returns-then-near-hi
returns-then-near-hi c = search picks

pub returns-else-near-hi : goal.returns-else-near-hi
returns-else-near-hi c = search picks
