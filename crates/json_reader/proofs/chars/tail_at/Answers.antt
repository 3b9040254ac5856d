-- `json_reader::chars::tail_at` meets its contract. Assumes nothing.
use Rattle.text.specs.Chars.{tail_at}
use Rattle.json_reader.proofs.chars.tail_at.Goals as goal

pub returns : goal.returns
unfolding tail_at
returns c = cc
