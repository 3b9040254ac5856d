-- `pieces::values::closes_text` meets its contract: with nothing open only the end may come. Assumes nothing.
use borrow.Author.Rules.{rules}
use Rattle.laws.proofs.Picks.{picks}
use Rattle.wire.specs.Held.{told_at, state_at}
use Rattle.pieces.proofs.Acts.{closes_none}
use Rattle.pieces.proofs.values.closes_text.Goals as goal

pub told-requires : goal.told-requires
told-requires c = search rules

pub returns-then-b-eq256 : goal.returns-then-b-eq256
unfolding state_at told_at
returns-then-b-eq256 c = rw (c.told.ensures, closes_none _ _ _ _ _ c.requires) (search picks)

pub told-requires-2 : goal.told-requires-2
told-requires-2 c = search rules

pub returns : goal.returns
unfolding state_at told_at
returns c = rw (c.told-2.ensures, closes_none _ _ _ _ _ c.requires) (search picks)
