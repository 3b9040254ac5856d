-- `pieces::reader::feed_all` meets its contract: each turn goes on over a run (`run_at`) and then over one byte (`one_more`); an answer stays (`over_all`). The
-- measure is what is left of the text. Assumes nothing.
use Prim.Native.Nat.{◌+◌, ◌-◌, ◌≤◌, ◌<◌}
use lib.ListN.{length}
use Rattle.wire.specs.Held.{state_of}
use Rattle.pieces.proofs.Feeding.{After}
use Rattle.pieces.proofs.reader.feed_all.Given as goal

abbrev pub invariant-loop-start : goal.invariant-loop-start
invariant-loop-start l = (l.h.spot < 54) × (l.i ≤ length l.text) × After (state_of l.start) l.text l.start.place l.i l.h

abbrev pub decreases-loop-start : goal.decreases-loop-start
decreases-loop-start l = length l.text + 1 - l.i
