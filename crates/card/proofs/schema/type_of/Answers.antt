-- `card::schema::type_of` meets its contract. Assumes nothing.
use Rattle.laws.proofs.Picks.{picks}
use Rattle.card.specs.Types.{type_at}
use Rattle.card.proofs.schema.type_of.Goals as goal

pub returns-in-1 : goal.returns-in-1
unfolding type_at
returns-in-1 c = rw (← c.item_of-item.ensures, c.in-1.is)

pub returns-in-2 : goal.returns-in-2
unfolding type_at
returns-in-2 c = rw (← c.item_of-item.ensures, c.in-2.is)

pub returns-in-3 : goal.returns-in-3
unfolding type_at
returns-in-3 c = rw (← c.item_of-item.ensures, c.in-3.is)

pub returns-in_default : goal.returns-in_default
unfolding type_at
returns-in_default c = rw (← c.item_of-item.ensures) (search picks)
