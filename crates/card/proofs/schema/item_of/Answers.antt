-- `card::schema::item_of` meets its contract. Assumes nothing.
use Rattle.laws.proofs.Picks.{picks}
use Rattle.card.specs.Types.{item_at}
use Rattle.card.proofs.schema.item_of.Goals as goal

pub returns-then-n-ge-BY_TYPE : goal.returns-then-n-ge-BY_TYPE
unfolding item_at
returns-then-n-ge-BY_TYPE c = search picks

pub returns-then-n-ge-NAME_OF : goal.returns-then-n-ge-NAME_OF
unfolding item_at
returns-then-n-ge-NAME_OF c = search picks

pub returns-then-n-ge-OBJECT_OF : goal.returns-then-n-ge-OBJECT_OF
unfolding item_at
returns-then-n-ge-OBJECT_OF c = search picks

pub returns-then-n-ge-BOUNDED : goal.returns-then-n-ge-BOUNDED
unfolding item_at
returns-then-n-ge-BOUNDED c = rw (← c.bounded.ensures) (search picks)

pub returns-in-1 : goal.returns-in-1
unfolding item_at
returns-in-1 c = rw c.in-1.is

pub returns-in-2 : goal.returns-in-2
unfolding item_at
returns-in-2 c = rw c.in-2.is

pub returns-in-3 : goal.returns-in-3
unfolding item_at
returns-in-3 c = rw c.in-3.is

pub returns-in-4 : goal.returns-in-4
unfolding item_at
returns-in-4 c = rw c.in-4.is

pub returns-in-5 : goal.returns-in-5
unfolding item_at
returns-in-5 c = rw c.in-5.is

pub returns-in-6 : goal.returns-in-6
unfolding item_at
returns-in-6 c = rw c.in-6.is

pub returns-in_default : goal.returns-in_default
unfolding item_at
returns-in_default c = search picks
