-- `pieces::figures::turn` meets its contract: an arm for each place of a number's grammar; a number past 6 is the last place. Assumes nothing.
use Rattle.wire.specs.Figures.{turn_of}
use Rattle.wire.specs.Held.{figure_at}
use Rattle.pieces.proofs.Ways.{past, turn_either, figure_last}
use Rattle.pieces.proofs.figures.turn.Goals as goal

pub returns-in-0 : goal.returns-in-0
unfolding figure_at
returns-in-0 c = rw c.in-0.is c.minus_turn.ensures

pub returns-in-1 : goal.returns-in-1
unfolding turn_of figure_at
returns-in-1 c = rw c.in-1.is c.frac_turn.ensures

pub returns-in-2 : goal.returns-in-2
unfolding turn_of figure_at
returns-in-2 c = rw (c.in-2.is, c.digit_or.ensures, turn_either, c.frac_turn-in-2.ensures)

pub returns-in-3 : goal.returns-in-3
unfolding turn_of figure_at
returns-in-3 c = rw (c.in-3.is, c.digit_or-in-3.ensures, turn_either)

pub returns-in-4 : goal.returns-in-4
unfolding turn_of figure_at
returns-in-4 c = rw (c.in-4.is, c.digit_or-in-4.ensures, turn_either, c.exp_turn.ensures)

pub returns-in-5 : goal.returns-in-5
unfolding figure_at
returns-in-5 c = rw c.in-5.is c.exponent_turn.ensures

pub returns-in-6 : goal.returns-in-6
unfolding turn_of figure_at
returns-in-6 c = rw (c.in-6.is, c.digit_or-in-6.ensures, turn_either)

pub returns-in_default : goal.returns-in_default
unfolding turn_of figure_at
returns-in_default c = let k = c.args.k in rw (figure_last k (past 7 k c.in_default.in_default-own.rest), c.digit_or-in_default.ensures, turn_either)
