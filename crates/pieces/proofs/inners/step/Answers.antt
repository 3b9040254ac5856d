-- `pieces::inners::step` meets its contract: an arm for each place inside a string, whose function answers its case. Assumes nothing.
use Rattle.pieces.proofs.inners.step.Goals as goal

pub returns-in-Plain : goal.returns-in-Plain
returns-in-Plain c = rw c.in-Plain.is c.plain.ensures

pub returns-in-Escape : goal.returns-in-Escape
returns-in-Escape c = rw c.in-Escape.is c.escape.ensures

pub returns-in-Four : goal.returns-in-Four
returns-in-Four c = rw c.in-Four.is c.four.ensures

pub returns-in-Pair : goal.returns-in-Pair
returns-in-Pair c = rw c.in-Pair.is c.pair.ensures

pub returns-in-PairU : goal.returns-in-PairU
returns-in-PairU c = rw c.in-PairU.is c.pair_u.ensures

pub returns-in-Low1 : goal.returns-in-Low1
returns-in-Low1 c = rw c.in-Low1.is c.low1.ensures

pub returns-in-Low2 : goal.returns-in-Low2
returns-in-Low2 c = rw c.in-Low2.is c.low2.ensures

pub returns-in-Low3 : goal.returns-in-Low3
returns-in-Low3 c = rw c.in-Low3.is c.low3.ensures

pub returns-in-Low4 : goal.returns-in-Low4
returns-in-Low4 c = rw c.in-Low4.is c.low4.ensures

pub returns-in-Second3 : goal.returns-in-Second3
returns-in-Second3 c = rw c.in-Second3.is c.second3.ensures

pub returns-in-Second4 : goal.returns-in-Second4
returns-in-Second4 c = rw c.in-Second4.is c.second4.ensures

pub returns-in-Tails : goal.returns-in-Tails
returns-in-Tails c = rw c.in-Tails.is c.tails.ensures
