-- `card::judge::fault_of` meets its contract. Assumes nothing.
use Rattle.contact.specs.Verdict.{fault_of}
use Rattle.card.proofs.judge.fault_of.Goals as goal

pub returns-in-Kind : goal.returns-in-Kind
unfolding fault_of
returns-in-Kind c = rw c.in-Kind.is

pub returns-in-Missing : goal.returns-in-Missing
unfolding fault_of
returns-in-Missing c = rw c.in-Missing.is

pub returns-in-Value : goal.returns-in-Value
unfolding fault_of
returns-in-Value c = rw c.in-Value.is

pub returns-in-Rule : goal.returns-in-Rule
unfolding fault_of
returns-in-Rule c = rw c.in-Rule.is
