-- `json_reader::decode::next_byte` meets its contract: the arms over `left` are the cases of `conts`. Assumes nothing.
use Rattle.text.specs.Utf8.{conts}
use Rattle.json_reader.specs.Cursors.{next_of}
use Rattle.laws.proofs.Picks.{picks}
use Rattle.json_reader.proofs.decode.next_byte.Goals as goal

pub returns-in-0 : goal.returns-in-0
unfolding conts next_of
returns-in-0 c = search picks

pub returns-in-1 : goal.returns-in-1
unfolding conts next_of
returns-in-1 c = search picks

pub returns-in-2 : goal.returns-in-2
unfolding conts next_of
returns-in-2 c = search picks

pub returns-in_default : goal.returns-in_default
unfolding conts next_of
returns-in_default c = search picks
