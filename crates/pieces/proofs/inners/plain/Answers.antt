-- `pieces::inners::plain` meets its contract: the tests are the definition's, and `lead` answers for the first byte of a sequence. Assumes nothing.
use Rattle.laws.proofs.Picks.{picks}
use Rattle.wire.specs.Inners.{move_of}
use borrow.Author.Rules.{rules}
use Rattle.pieces.proofs.inners.plain.Goals as goal

pub returns-then-b-eq-QUOTE : goal.returns-then-b-eq-QUOTE
unfolding move_of
returns-then-b-eq-QUOTE c = search picks

pub returns-then-b-eq-BACKSLASH : goal.returns-then-b-eq-BACKSLASH
unfolding move_of
returns-then-b-eq-BACKSLASH c = search picks

pub returns-then-b-lt32 : goal.returns-then-b-lt32
unfolding move_of
returns-then-b-lt32 c = search picks

pub returns-then-b-lt128 : goal.returns-then-b-lt128
unfolding move_of
returns-then-b-lt128 c = search picks

pub lead-requires : goal.lead-requires
lead-requires c = search rules

pub returns-then-b-lt256 : goal.returns-then-b-lt256
unfolding move_of
returns-then-b-lt256 c = rw (← c.lead.ensures) (search picks)

pub returns : goal.returns
unfolding move_of
returns c = search picks
