-- `pieces::literals::expect` meets its contract: its test is the contract's. Assumes nothing.
use Rattle.laws.proofs.Picks.{picks}
use Rattle.pieces.proofs.literals.expect.Goals as goal

pub returns-then-b-want : goal.returns-then-b-want
returns-then-b-want c = search picks

pub returns : goal.returns
returns c = search picks
