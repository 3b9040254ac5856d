-- `pieces::inners::second3` meets its contract: a continuation byte's six bits, and then `after3` answers. Assumes nothing.
use Rattle.laws.proofs.Picks.{picks}
use Rattle.wire.specs.Inners.{move_of}
use borrow.Author.Rules.{rules}
use Rattle.pieces.proofs.inners.second3.Goals as goal

pub tail-x-requires : goal.tail-x-requires
tail-x-requires c = search rules

pub returns-then-x-gt63 : goal.returns-then-x-gt63
unfolding move_of
returns-then-x-gt63 c = rw (← c.tail-x.ensures) (search picks)

pub overflow_mul-c : goal.overflow_mul-c
overflow_mul-c c = search rules

pub overflow_add-c : goal.overflow_add-c
overflow_add-c c = search rules

pub after3-requires : goal.after3-requires
after3-requires c = search rules

pub returns : goal.returns
unfolding move_of
returns c = rw (← c.tail-x.ensures, ← c.after3.ensures) (search picks)
