-- `json_reader::strings::chars_end` meets its contract: it is one of the two that `last_stop` gives. Assumes nothing.
use Rattle.json_reader.proofs.strings.chars_end.Goals as goal

pub returns : goal.returns
returns c = c.last_stop.ensures.chars
