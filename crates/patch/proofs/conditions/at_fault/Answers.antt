-- `patch::conditions::at_fault` meets its contract: each arm's test is the fault's. Assumes nothing.
use Rattle.patch.proofs.conditions.at_fault.Goals as goal

pub returns-in-Tilde : goal.returns-in-Tilde
returns-in-Tilde c = rw (c.in-Tilde.is, ← c.listed_key.ensures) c.has_bad_tilde.ensures

pub returns-in-Own : goal.returns-in-Own
returns-in-Own c = rw (c.in-Own.is, ← c.listed_key-in-Own.ensures) c.is_own.ensures

pub returns-in-Clash : goal.returns-in-Clash
returns-in-Clash c = rw c.in-Clash.is c.clashes_next.ensures

pub returns-in-InArray : goal.returns-in-InArray
returns-in-InArray c = rw (c.in-InArray.is, ← c.walk_at.ensures)

pub returns-in-NoObject : goal.returns-in-NoObject
returns-in-NoObject c = rw (c.in-NoObject.is, ← c.walk_at-in-NoObject.ensures)
