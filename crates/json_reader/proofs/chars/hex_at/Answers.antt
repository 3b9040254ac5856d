-- `json_reader::chars::hex_at` meets its contract: the arms are the two ways of the test. Assumes nothing.
use Rattle.text.specs.Chars.{digit_at}
use Rattle.laws.proofs.Picks.{picks}
use Rattle.json_reader.proofs.chars.hex_at.Goals as goal

pub returns-in-16 : goal.returns-in-16
unfolding digit_at
returns-in-16 c = rw (← c.peek.ensures.value, ← c.digit.ensures) (search picks)

pub returns-in_default : goal.returns-in_default
unfolding digit_at
returns-in_default c = rw (← c.peek.ensures.value, ← c.digit.ensures) (search picks)
