-- `json_reader::repeated::common` meets its contract: what all names so far begin with. Assumes nothing.
use Prim.Native.Nat.{◌≤◌}
use lib.ListN.{length}
use Rattle.repeats.specs.Beginning.{Begin}
use Rattle.json_reader.proofs.repeated.common.Given as goal

abbrev pub invariant-loop-place : goal.invariant-loop-place
invariant-loop-place l = (l.place-index ≤ length l.places) × Begin l.text l.places 0 l.place-index l.k
