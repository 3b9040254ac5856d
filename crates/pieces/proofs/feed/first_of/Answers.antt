-- `pieces::feed::first_of` meets its contract by its test. Assumes nothing.
use Rattle.laws.proofs.Picks.{picks}
use Rattle.pieces.proofs.feed.first_of.Goals as goal

pub returns-then-code-lt-KEYS : goal.returns-then-code-lt-KEYS
returns-then-code-lt-KEYS c = search picks

pub returns : goal.returns
returns c = search picks
