-- `formats::ids::is_letter` meets its contract: in each arm the range that holds picks the case. Assumes nothing.
use Rattle.laws.proofs.Picks.{picks}
use Rattle.formats.proofs.ids.is_letter.Goals as goal

pub returns-in-65-to-90 : goal.returns-in-65-to-90
returns-in-65-to-90 c = search picks

pub returns-in-97-to-122 : goal.returns-in-97-to-122
returns-in-97-to-122 c = search picks

pub returns-in_default : goal.returns-in_default
returns-in_default c = search picks

pub returns-in_default-2 : goal.returns-in_default-2
returns-in_default-2 c = search picks

pub returns-in_default-3 : goal.returns-in_default-3
returns-in_default-3 c = search picks
