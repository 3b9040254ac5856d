-- `json_reader::tokens::more_at` meets its contract: its tests are those of `more_by`. Assumes nothing.
use Rattle.laws.proofs.Picks.{picks}
use Rattle.json_reader.proofs.tokens.more_at.Goals as goal

pub returns-then-b-eq-POINT : goal.returns-then-b-eq-POINT
returns-then-b-eq-POINT c = rw (← c.peek-b.ensures.value) (search picks)

pub returns-then-b-eq-SMALL_E : goal.returns-then-b-eq-SMALL_E
returns-then-b-eq-SMALL_E c = rw (← c.peek-b.ensures.value) (search picks)

pub returns : goal.returns
returns c = rw (← c.peek-b.ensures.value) (search picks)
