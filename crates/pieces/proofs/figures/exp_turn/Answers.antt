-- `pieces::figures::exp_turn` meets its contract: the tests are the definition's, and a number's turn computes. Assumes nothing.
use Rattle.laws.proofs.Picks.{picks}
use Rattle.wire.specs.Figures.{exp_turn}
use Rattle.wire.specs.Held.{figure_at}
use Rattle.pieces.proofs.figures.exp_turn.Goals as goal

pub returns-then-b-eq-SMALL_E : goal.returns-then-b-eq-SMALL_E
unfolding exp_turn figure_at
returns-then-b-eq-SMALL_E c = search picks

pub returns-then-b-eq-LARGE_E : goal.returns-then-b-eq-LARGE_E
unfolding exp_turn figure_at
returns-then-b-eq-LARGE_E c = search picks

pub returns : goal.returns
unfolding exp_turn figure_at
returns c = search picks
