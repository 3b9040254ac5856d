-- `json_reader::names::order_at` meets its contract: the arms are the cases of `order_at`. Assumes nothing.
use Rattle.laws.proofs.Picks.{picks}
use Rattle.json_reader.specs.Names.{order_at}
use Rattle.json_reader.proofs.names.order_at.Goals as goal

pub returns-in-256-eq256 : goal.returns-in-256-eq256
unfolding order_at
returns-in-256-eq256 c = search picks

pub returns-in-256-default : goal.returns-in-256-default
unfolding order_at
returns-in-256-default c = search picks

pub returns-in_default-eq256 : goal.returns-in_default-eq256
unfolding order_at
returns-in_default-eq256 c = search picks

pub returns-in_default : goal.returns-in_default
unfolding order_at
returns-in_default c = search picks
