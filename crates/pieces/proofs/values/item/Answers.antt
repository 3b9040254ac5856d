-- `pieces::values::item` meets its contract: the byte is the closing one or it is not. Assumes nothing.
use Rattle.laws.proofs.Picks.{picks}
use Rattle.pieces.proofs.values.item.Goals as goal

pub returns-then-b-close : goal.returns-then-b-close
returns-then-b-close c = search picks

pub returns : goal.returns
returns c = search picks
