-- `formats::dates::is_leap` meets its contract. Assumes nothing.
use Rattle.laws.proofs.Picks.{picks}
use Rattle.contact.specs.Dates.{is_leap}
use Rattle.formats.proofs.dates.is_leap.Goals as goal

pub returns-then-year-ne0 : goal.returns-then-year-ne0
unfolding is_leap
returns-then-year-ne0 c = search picks

pub returns-then-year-ne0-2 : goal.returns-then-year-ne0-2
unfolding is_leap
returns-then-year-ne0-2 c = search picks

pub returns : goal.returns
unfolding is_leap
returns c = search picks
