-- `json_reader::tokens::token_end` meets its contract: an arm for each kind. Assumes nothing.
use Rattle.text.specs.Tokens.{token_at}
use Rattle.laws.proofs.Picks.{picks}
use Rattle.json_reader.proofs.tokens.token_end.Goals as goal

pub returns-in-1 : goal.returns-in-1
unfolding token_at
returns-in-1 c = rw c.in-1.is c.literal.ensures

pub returns-in-2 : goal.returns-in-2
unfolding token_at
returns-in-2 c = rw c.in-2.is c.literal-in-2.ensures

pub returns-in-3 : goal.returns-in-3
unfolding token_at
returns-in-3 c = rw c.in-3.is c.literal-in-3.ensures

pub returns-in-4 : goal.returns-in-4
unfolding token_at
returns-in-4 c = rw c.in-4.is c.number.ensures

pub returns-in_default : goal.returns-in_default
unfolding token_at
returns-in_default c = rw (← c.string_end.ensures) (search picks)
