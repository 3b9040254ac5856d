-- `patch::conditions::clashes_next` meets its contract: the last entry has no next one. Assumes nothing.
use Rattle.laws.proofs.Picks.{picks}
use Rattle.patch.proofs.conditions.clashes_next.Goals as goal

pub returns-then-n-next : goal.returns-then-n-next
returns-then-n-next c = search picks

pub returns : goal.returns
returns c = rw (c.clashes.ensures, c.listed_key-2.ensures, c.listed_key.ensures) (search picks)
