-- `pieces::inners::lead` meets its contract: the tests are those of `lead_move`. Assumes nothing.
use Rattle.laws.proofs.Picks.{picks}
use Rattle.wire.specs.Inners.{lead_move}
use borrow.Author.Rules.{rules}
use Rattle.pieces.proofs.inners.lead.Goals as goal

pub returns-then-b-lt194 : goal.returns-then-b-lt194
unfolding lead_move
returns-then-b-lt194 c = search picks

pub overflow_cast-result : goal.overflow_cast-result
overflow_cast-result c = search rules

pub returns-then-b-lt224 : goal.returns-then-b-lt224
unfolding lead_move
returns-then-b-lt224 c = search picks

pub overflow_cast-result-then-b-lt240 : goal.overflow_cast-result-then-b-lt240
overflow_cast-result-then-b-lt240 c = search rules

pub returns-then-b-lt240 : goal.returns-then-b-lt240
unfolding lead_move
returns-then-b-lt240 c = search picks

pub overflow_cast-result-then-b-lt245 : goal.overflow_cast-result-then-b-lt245
overflow_cast-result-then-b-lt245 c = search rules

pub returns-then-b-lt245 : goal.returns-then-b-lt245
unfolding lead_move
returns-then-b-lt245 c = search picks

pub returns : goal.returns
unfolding lead_move
returns c = search picks
