-- `patch::runs::bound` meets its contract: the place is halved in, and where the entries ascend it parts them. Assumes nothing.
use Prim.Native.Nat.{◌-◌}
use Rattle.laws.proofs.Halving.{Halved}
use Rattle.text.specs.Strings.{decode}
use Rattle.patch.proofs.Listing.Runs.{before_by_cue}
use Rattle.patch.proofs.runs.bound.Given as goal

abbrev pub invariant-loop-a : goal.invariant-loop-a
invariant-loop-a l =
    Halved (before_by_cue l.text l.table l.ptext l.ptable l.rows l.cues (decode l.name) l.past) l.lo l.hi l.a l.b

abbrev pub decreases-loop-a : goal.decreases-loop-a
decreases-loop-a l = l.b - l.a
