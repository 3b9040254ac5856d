-- `json_reader::quoted::ended` meets its contract: the test picks the case of the definition. Assumes nothing.
use Rattle.laws.proofs.Picks.{picks}
use Rattle.json_reader.specs.Quoted.{ended}
use Rattle.json_reader.proofs.quoted.ended.Goals as goal

pub returns-then-p-eq-QUOTE : goal.returns-then-p-eq-QUOTE
unfolding ended
returns-then-p-eq-QUOTE c = search picks

pub returns : goal.returns
unfolding ended
returns c = search picks
