-- `pieces::figures::exponent_turn` meets its contract: a sign, a digit, or the number is stuck. Assumes nothing.
use borrow.Author.Rules.{rules}
use Rattle.laws.proofs.Picks.{picks}
use Rattle.wire.specs.Figures.{turn_of}
use Rattle.wire.specs.Held.{figure_at}
use Rattle.pieces.proofs.Ways.{turn_either}
use Rattle.pieces.proofs.figures.exponent_turn.Goals as goal

pub returns : goal.returns
unfolding turn_of figure_at
returns c = rw (c.digit_or.ensures, turn_either) (search picks)

pub returns-then-b-eq-MINUS : goal.returns-then-b-eq-MINUS
unfolding turn_of figure_at
returns-then-b-eq-MINUS c = search picks

pub returns-then-b-eq-PLUS : goal.returns-then-b-eq-PLUS
unfolding turn_of figure_at
returns-then-b-eq-PLUS c = search picks

pub digit_or-requires : goal.digit_or-requires
unfolding turn_of figure_at
digit_or-requires c = search rules
