-- `json_reader::chars::escape` meets its contract: what the callees ensure puts their results into `escape_at`; the arm says which constructor `hex4`
-- answered, by which `on_hex` goes on; the tests pick the case. Assumes nothing.
use Rattle.text.specs.Chars.{escape_at, on_hex}
use Rattle.laws.proofs.Picks.{picks}
use Rattle.json_reader.proofs.chars.escape.Goals as goal

pub returns-in-Ok : goal.returns-in-Ok
unfolding escape_at on_hex
returns-in-Ok c =
    rw (
      ← c.peek-b.ensures.value,
      ← c.hex4.ensures,
      c.in-Ok.is,
      ← c.unit.ensures,
    )
    (search picks)

pub returns-in-Err : goal.returns-in-Err
unfolding escape_at on_hex
returns-in-Err c =
    rw (
      ← c.peek-b.ensures.value,
      ← c.hex4.ensures,
      c.in-Err.is,
    )
    (search picks)

pub returns-then-code-eq0 : goal.returns-then-code-eq0
unfolding escape_at on_hex
returns-then-code-eq0 c = rw (← c.peek-b.ensures.value, ← c.letter-code.ensures) (search picks)

pub returns : goal.returns
unfolding escape_at on_hex
returns c = rw (← c.peek-b.ensures.value, ← c.letter-code.ensures) (search picks)
