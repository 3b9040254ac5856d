-- `card::walk::breach_at` meets its contract: up to a member there is no breach, and the members go on. The measure is the number of words behind the row. Assumes nothing.
use Prim.Native.Nat.{◌-◌, ◌<◌}
use lib.ListN.{length}
use Rattle.card.specs.Types.{type_at}
use Rattle.card.proofs.Judging.Walk.{Judging}
use Rattle.card.proofs.walk.+breach_at.Given as goal

abbrev pub decreases-breach_at : goal.decreases-breach_at
decreases-breach_at l = length l.on.now.table.now - l.row

abbrev pub invariant-loop-at : goal.invariant-loop-at
invariant-loop-at l = (Judging l.on.text.now l.on.table.now (type_at l.code) l.key l.row l.end l.at) × (l.row < l.at)

abbrev pub decreases-loop-at : goal.decreases-loop-at
decreases-loop-at l = l.end - l.at
