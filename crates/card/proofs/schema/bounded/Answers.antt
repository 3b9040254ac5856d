-- `card::schema::bounded` meets its contract. Assumes nothing.
use Rattle.laws.proofs.Picks.{picks}
use Rattle.card.proofs.schema.bounded.Goals as goal

pub returns-in-0 : goal.returns-in-0
returns-in-0 c = rw c.in-0.is

pub returns-in_default : goal.returns-in_default
returns-in_default c = search picks
