-- `patch::writing::hinted` meets its contract. Assumes nothing.
use Rattle.patch.proofs.writing.hinted.Goals as goal

pub next_hint-hint-requires : goal.next_hint-hint-requires
next_hint-hint-requires c = tt

pub returns : goal.returns
returns c = rw c.next_hint-hint.ensures
