-- `json_reader::lookup::find` meets its contract: a walk along the members. The measure is the rows left. Assumes nothing.
use Prim.Native.Nat.{◌-◌}
use Rattle.json_reader.proofs.Seeking.{Seeking}
use Rattle.json_reader.proofs.lookup.find.Given as goal

abbrev pub invariant-loop-at : goal.invariant-loop-at
invariant-loop-at l = Seeking l.text l.table l.from l.end l.name l.at

abbrev pub decreases-loop-at : goal.decreases-loop-at
decreases-loop-at l = l.end - l.at
