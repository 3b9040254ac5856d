-- `pieces::inners::escape` meets its contract: a u, a letter of the other escapes, or neither. Assumes nothing.
use Rattle.laws.proofs.Picks.{picks}
use Rattle.wire.specs.Inners.{move_of}
use borrow.Author.Rules.{rules}
use Rattle.pieces.proofs.inners.escape.Goals as goal

pub returns-then-b-eq-SMALL_U : goal.returns-then-b-eq-SMALL_U
unfolding move_of
returns-then-b-eq-SMALL_U c = search picks

pub letter-l-requires : goal.letter-l-requires
letter-l-requires c = search rules

pub returns-then-l-eq0 : goal.returns-then-l-eq0
unfolding move_of
returns-then-l-eq0 c = rw (← c.letter-l.ensures) (search picks)

pub returns : goal.returns
unfolding move_of
returns c = rw (← c.letter-l.ensures) (search picks)
