-- `patch::runs::next_hint` meets its contract, by its test. Assumes nothing.
use Rattle.laws.proofs.Picks.{picks}
use Rattle.patch.proofs.runs.next_hint.Goals as goal

pub returns-then-hint-run : goal.returns-then-hint-run
returns-then-hint-run c = search picks

pub returns-else-hint-run : goal.returns-else-hint-run
returns-else-hint-run c = search picks
