-- The part of the text between the row's places of its name. Assumes nothing.
use Rattle.patch.proofs.children.key_at.Goals as goal

pub returns : goal.returns
returns c = rw (← c.name_start.ensures, ← c.name_end.ensures) c.slice.ensures
