-- `json_reader::chars::step_at` meets its contract: the tests of the byte pick the case of `step_by`. A byte below 256 lies inside the text, as
-- `escape` and `raw` require. Assumes nothing.
use native.Mathlib.Omega.{arith}
use Rattle.text.specs.Chars.{step_by}
use Rattle.laws.proofs.Picks.{picks}
use Rattle.laws.proofs.Places.{inside}
use Rattle.json_reader.proofs.chars.step_at.Goals as goal

pub returns-then-b-eq-QUOTE : goal.returns-then-b-eq-QUOTE
unfolding step_by
returns-then-b-eq-QUOTE c = rw (← c.peek-b.ensures.value) (search picks)

pub escape-requires : goal.escape-requires
escape-requires c = inside c.args.text.now c.args.at (omega arith)

pub returns-then-b-eq-BACKSLASH : goal.returns-then-b-eq-BACKSLASH
unfolding step_by
returns-then-b-eq-BACKSLASH c = rw (← c.peek-b.ensures.value, ← c.escape.ensures) (search picks)

pub returns-then-b-lt-SPACE : goal.returns-then-b-lt-SPACE
unfolding step_by
returns-then-b-lt-SPACE c = rw (← c.peek-b.ensures.value) (search picks)

pub returns-then-b-lt128 : goal.returns-then-b-lt128
unfolding step_by
returns-then-b-lt128 c = rw (← c.peek-b.ensures.value) (search picks)

pub raw-requires : goal.raw-requires
raw-requires c = inside c.args.text.now c.args.at (omega arith)

pub returns-then-b-lt-OVER : goal.returns-then-b-lt-OVER
unfolding step_by
returns-then-b-lt-OVER c = rw (← c.peek-b.ensures.value, ← c.raw.ensures) (search picks)

pub returns : goal.returns
unfolding step_by
returns c = rw (← c.peek-b.ensures.value) (search picks)
