-- `output::put::small_hex` meets its contract. Assumes nothing.
use Rattle.laws.proofs.Picks.{picks}
use Rattle.output.proofs.put.small_hex.Goals as goal

pub returns-then-n-lt10 : goal.returns-then-n-lt10
returns-then-n-lt10 c = search picks

pub returns-else-n-lt10 : goal.returns-else-n-lt10
returns-else-n-lt10 c = search picks
