-- `pieces::feed::behind` meets its contract by its test. Assumes nothing.
use Rattle.laws.proofs.Picks.{picks}
use Rattle.pieces.proofs.feed.behind.Goals as goal

pub returns-then-first-lt-KEYS : goal.returns-then-first-lt-KEYS
returns-then-first-lt-KEYS c = search picks

pub returns : goal.returns
returns c = search picks
