-- `bezinkol::held_in` meets its contract: each word is read, and the two halves are joined. Assumes nothing.
use Rattle.bezinkol.proofs.held_in.Goals as goal

pub returns : goal.returns
returns c = rw c.joined.ensures
