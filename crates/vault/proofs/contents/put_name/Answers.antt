-- `vault::contents::put_name` meets its contract. Assumes nothing.
use Rattle.vault.proofs.contents.put_name.Goals as goal

pub returns : goal.returns
returns c = rw c.slice.ensures at c.put_inner.ensures
