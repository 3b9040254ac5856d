-- `pieces::figures::frac_turn` meets its contract: a point, or what may stand where an exponent begins. Assumes nothing.
use borrow.Author.Rules.{rules}
use Rattle.laws.proofs.Picks.{picks}
use Rattle.wire.specs.Figures.{frac_turn}
use Rattle.wire.specs.Held.{figure_at}
use Rattle.pieces.proofs.figures.frac_turn.Goals as goal

pub returns : goal.returns
unfolding frac_turn
returns c = rw c.exp_turn.ensures (search picks)

pub returns-then-b-eq-POINT : goal.returns-then-b-eq-POINT
unfolding frac_turn figure_at
returns-then-b-eq-POINT c = search picks

pub exp_turn-requires : goal.exp_turn-requires
unfolding frac_turn figure_at
exp_turn-requires c = search rules
