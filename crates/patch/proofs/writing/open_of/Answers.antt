-- `patch::writing::open_of` meets its contract. Assumes nothing.
use Rattle.laws.proofs.Picks.{picks}
use Rattle.patch.proofs.writing.open_of.Goals as goal

pub returns-then-kind-eq-OBJECT : goal.returns-then-kind-eq-OBJECT
returns-then-kind-eq-OBJECT c = search picks

pub returns-else-kind-eq-OBJECT : goal.returns-else-kind-eq-OBJECT
returns-else-kind-eq-OBJECT c = search picks
