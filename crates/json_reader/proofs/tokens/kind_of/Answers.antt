-- `json_reader::tokens::kind_of` meets its contract: an arm of a single byte makes `kind_by` compute; the others are tests. Assumes nothing.
use Rattle.laws.proofs.Picks.{picks}
use Rattle.text.specs.Tokens.{kind_by}
use Rattle.json_reader.proofs.tokens.kind_of.Goals as goal

pub returns-in-110 : goal.returns-in-110
unfolding kind_by
returns-in-110 c = rw c.in-110.is

pub returns-in-102 : goal.returns-in-102
unfolding kind_by
returns-in-102 c = rw c.in-102.is

pub returns-in-116 : goal.returns-in-116
unfolding kind_by
returns-in-116 c = rw c.in-116.is

pub returns-in-45 : goal.returns-in-45
unfolding kind_by
returns-in-45 c = rw c.in-45.is

pub returns-in-34 : goal.returns-in-34
unfolding kind_by
returns-in-34 c = rw c.in-34.is

pub returns-in-91 : goal.returns-in-91
unfolding kind_by
returns-in-91 c = rw c.in-91.is

pub returns-in-123 : goal.returns-in-123
unfolding kind_by
returns-in-123 c = rw c.in-123.is

pub returns-in-48-to-57 : goal.returns-in-48-to-57
unfolding kind_by
returns-in-48-to-57 c = search picks

pub returns-in_default : goal.returns-in_default
unfolding kind_by
returns-in_default c = search picks

pub returns-in_default-2 : goal.returns-in_default-2
unfolding kind_by
returns-in_default-2 c = search picks
