-- `json_reader::chars::unit` meets its contract: the tests of u pick the case of `unit_at`. Assumes nothing.
use Rattle.text.specs.Chars.{unit_at}
use Rattle.laws.proofs.Picks.{picks}
use Rattle.json_reader.proofs.chars.unit.Goals as goal

pub returns-then-u-lt55296 : goal.returns-then-u-lt55296
unfolding unit_at
returns-then-u-lt55296 c = search picks

pub returns-then-u-lt56320 : goal.returns-then-u-lt56320
unfolding unit_at
returns-then-u-lt56320 c = search picks

pub returns : goal.returns
unfolding unit_at
returns c = search picks
