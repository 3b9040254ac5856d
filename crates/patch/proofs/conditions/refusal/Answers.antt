-- `patch::conditions::refusal` meets its contract: each arm's refusal is the fault's. Assumes nothing.
use Rattle.patch.proofs.conditions.refusal.Goals as goal

pub returns-in-Tilde : goal.returns-in-Tilde
returns-in-Tilde c = rw c.in-Tilde.is

pub returns-in-Own : goal.returns-in-Own
returns-in-Own c = rw c.in-Own.is

pub returns-in-Clash : goal.returns-in-Clash
returns-in-Clash c = rw c.in-Clash.is

pub returns-in-InArray : goal.returns-in-InArray
returns-in-InArray c = rw c.in-InArray.is

pub returns-in-NoObject : goal.returns-in-NoObject
returns-in-NoObject c = rw c.in-NoObject.is
