-- `json_reader::repeated::plain_run` meets its contract: a run, one byte longer with each turn (`plain_more`). The measure is what is left of the text behind so
-- many bytes. Assumes nothing.
use Prim.Native.Nat.{◌-◌}
use lib.ListN.{length}
use Rattle.repeats.specs.Beginning.{PlainRun}
use Rattle.json_reader.proofs.repeated.plain_run.Given as goal

abbrev pub invariant-loop-a : goal.invariant-loop-a
invariant-loop-a l = PlainRun l.text l.a l.k

abbrev pub decreases-loop-a : goal.decreases-loop-a
decreases-loop-a l = length l.text - l.k
