-- `json_reader::chars::pair` meets its contract: what the callees ensure puts their results into `pair_at`; the arm says which constructor `hex4`
-- answered, by which `low_at` goes on; the tests pick the case. Assumes nothing.
use Rattle.text.specs.Chars.{pair_at, low_at}
use Rattle.laws.proofs.Picks.{picks}
use Rattle.json_reader.proofs.chars.pair.Goals as goal

pub returns-then-peek-ne-BACKSLASH : goal.returns-then-peek-ne-BACKSLASH
unfolding pair_at low_at
returns-then-peek-ne-BACKSLASH c = rw (← c.peek.ensures.value) (search picks)

pub returns-then-peek-ne-SMALL_U : goal.returns-then-peek-ne-SMALL_U
unfolding pair_at low_at
returns-then-peek-ne-SMALL_U c = rw (← c.peek.ensures.value, ← c.peek-2.ensures.value) (search picks)

pub returns-in_default : goal.returns-in_default
unfolding pair_at low_at
returns-in_default c =
    rw (
      ← c.peek.ensures.value,
      ← c.peek-2.ensures.value,
      ← c.hex4.ensures,
      c.in_default.is,
    )
    (search picks)

pub returns-then-low-lt56320 : goal.returns-then-low-lt56320
unfolding pair_at low_at
returns-then-low-lt56320 c =
    rw (
      ← c.peek.ensures.value,
      ← c.peek-2.ensures.value,
      ← c.hex4.ensures,
      c.in-Ok.is,
    )
    (search picks)

pub returns-then-low-lt57344 : goal.returns-then-low-lt57344
unfolding pair_at low_at
returns-then-low-lt57344 c =
    rw (
      ← c.peek.ensures.value,
      ← c.peek-2.ensures.value,
      ← c.hex4.ensures,
      c.in-Ok.is,
      ← c.checked.ensures,
    )
    (search picks)

pub returns : goal.returns
unfolding pair_at low_at
returns c =
    rw (
      ← c.peek.ensures.value,
      ← c.peek-2.ensures.value,
      ← c.hex4.ensures,
      c.in-Ok.is,
    )
    (search picks)
