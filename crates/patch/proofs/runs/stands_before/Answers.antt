-- `patch::runs::stands_before` meets its contract: by the order that was answered. Assumes nothing.
use Rattle.patch.proofs.runs.stands_before.Goals as goal

pub returns-in-Less : goal.returns-in-Less
returns-in-Less c = rw (← c.part_order_of.ensures, c.in-Less.is)

pub returns-in-Equal : goal.returns-in-Equal
returns-in-Equal c = rw (← c.part_order_of.ensures, c.in-Equal.is)

pub returns-in-Greater : goal.returns-in-Greater
returns-in-Greater c = rw (← c.part_order_of.ensures, c.in-Greater.is)
