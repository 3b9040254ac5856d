-- `pieces::words::tidy_answer` meets its contract: an arm for each number of an answer; any other is told as 2. Assumes nothing.
use Rattle.laws.proofs.Picks.{picks}
use Rattle.text.specs.Sheet.{refused, paper}
use Rattle.wire.specs.Held.{told_at, state_at, held_of}
use Rattle.pieces.proofs.words.tidy_answer.Goals as goal

pub returns-in-101 : goal.returns-in-101
unfolding state_at held_of told_at paper refused
returns-in-101 c = rw c.in-101.is c.alone.ensures

pub returns-in-100 : goal.returns-in-100
unfolding state_at held_of told_at paper refused
returns-in-100 c = rw c.in-100.is c.alone-in-100.ensures

pub returns-in-103 : goal.returns-in-103
unfolding state_at held_of told_at paper refused
returns-in-103 c = rw c.in-103.is c.alone-in-103.ensures

pub returns-in-105 : goal.returns-in-105
unfolding state_at held_of told_at paper refused
returns-in-105 c = rw c.in-105.is c.alone-in-105.ensures

pub returns-in-106 : goal.returns-in-106
unfolding state_at held_of told_at paper refused
returns-in-106 c = rw c.in-106.is c.alone-in-106.ensures

pub returns-in_default : goal.returns-in_default
unfolding state_at held_of told_at paper refused
returns-in_default c = rw c.alone-in_default.ensures (search picks)
