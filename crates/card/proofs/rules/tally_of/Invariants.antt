-- `card::rules::tally_of` meets its contract: a walk along the entries. The measure is the rows left. Assumes nothing.
use Prim.Native.Nat.{◌-◌}
use Rattle.card.specs.Marks.{no_marks}
use Rattle.card.proofs.Judging.Along.{Along}
use Rattle.card.proofs.Judging.Separators.{tally_in}
use Rattle.card.proofs.rules.tally_of.Given as goal

abbrev pub invariant-loop-at : goal.invariant-loop-at
invariant-loop-at l = Along l.on.table.now l.from l.end (tally_in l.on.text.now no_marks) l.at (tally_in l.on.text.now l.m)

abbrev pub decreases-loop-at : goal.decreases-loop-at
decreases-loop-at l = l.end - l.at
