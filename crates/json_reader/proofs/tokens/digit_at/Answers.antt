-- `json_reader::tokens::digit_at` meets its contract: its tests are those of `is_digit`. Assumes nothing.
use Rattle.laws.proofs.Picks.{picks}
use Rattle.json_reader.proofs.tokens.digit_at.Goals as goal

pub returns-then-b-lt-ZERO : goal.returns-then-b-lt-ZERO
returns-then-b-lt-ZERO c = rw (← c.peek-b.ensures.value) (search picks)

pub returns : goal.returns
returns c = rw (← c.peek-b.ensures.value) (search picks)
