-- `formats::dates::is_day` meets its contract, by the days of the month. Assumes nothing.
use Rattle.laws.proofs.Picks.{picks}
use Rattle.contact.specs.Dates.{is_day}
use Rattle.formats.proofs.dates.is_day.Goals as goal

pub returns-else-day-ge1 : goal.returns-else-day-ge1
unfolding is_day
returns-else-day-ge1 c = search picks

pub returns-then-day-ge1 : goal.returns-then-day-ge1
unfolding is_day
returns-then-day-ge1 c = rw (← c.days_of.ensures) (search picks)
