-- `formats::dates::is_long_february` meets its contract. Assumes nothing.
use Rattle.laws.proofs.Picks.{picks}
use Rattle.formats.proofs.dates.is_long_february.Goals as goal

pub returns-then-month-ne2 : goal.returns-then-month-ne2
returns-then-month-ne2 c = search picks

pub returns : goal.returns
returns c = rw (← c.is_leap.ensures) (search picks)
