-- `json_reader::chars::raw` meets its contract: what the callees ensure puts their results into `raw_at`, and the tests of the first byte pick the
-- case. Assumes nothing.
use Rattle.text.specs.Chars.{raw_at}
use Rattle.laws.proofs.Picks.{picks}
use Rattle.json_reader.proofs.chars.raw.Goals as goal

pub returns-then-b-lt192 : goal.returns-then-b-lt192
unfolding raw_at
returns-then-b-lt192 c = search picks

pub returns-then-b-lt224 : goal.returns-then-b-lt224
unfolding raw_at
returns-then-b-lt224 c = rw (← c.tail_at-x.ensures, ← c.code2.ensures, ← c.checked.ensures) (search picks)

pub returns-then-b-lt240 : goal.returns-then-b-lt240
unfolding raw_at
returns-then-b-lt240 c =
    rw (
      ← c.tail_at-x.ensures,
      ← c.tail_at-y.ensures,
      ← c.code3.ensures,
      ← c.checked-then-b-lt240.ensures,
    )
    (search picks)

pub returns-then-b-lt248 : goal.returns-then-b-lt248
unfolding raw_at
returns-then-b-lt248 c =
    rw (
      ← c.tail_at-x.ensures,
      ← c.tail_at-y.ensures,
      ← c.tail_at-z.ensures,
      ← c.code4.ensures,
      ← c.checked-then-b-lt248.ensures,
    )
    (search picks)

pub returns : goal.returns
unfolding raw_at
returns c = search picks
