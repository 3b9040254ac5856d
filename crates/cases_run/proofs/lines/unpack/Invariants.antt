-- The text fits into its buffer, and keeps it. Assumes nothing.
use Rattle.std.proofs.Common.{length}
use Rattle.std.specs.Slice.Iter.{iter_rest}
use Rattle.cases_run.specs.Counts.{Fits, Keeps}
use Rattle.cases_run.proofs.lines.unpack.Given as goal

abbrev pub invariant-loop-byte : goal.invariant-loop-byte
invariant-loop-byte l = Fits l.text × Keeps l.initial.text l.text

abbrev pub decreases-loop-byte : goal.decreases-loop-byte
decreases-loop-byte l = length (iter_rest l.bytes)
