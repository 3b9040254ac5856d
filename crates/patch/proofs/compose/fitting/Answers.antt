-- `patch::compose::fitting` meets its contract. Assumes nothing.
use Rattle.laws.proofs.Picks.{picks}
use Rattle.patch.proofs.compose.fitting.Goals as goal

pub returns-then-room-count : goal.returns-then-room-count
returns-then-room-count c = search picks

pub returns : goal.returns
returns c = search picks
