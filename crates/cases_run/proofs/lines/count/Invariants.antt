-- Bytes are only passed. Assumes nothing.
use Rattle.std.proofs.Common.{length, ◌≤◌}
use Rattle.std.specs.Slice.Iter.{iter_rest}
use Rattle.cases_run.proofs.lines.count.Given as goal

abbrev pub invariant-loop-b : goal.invariant-loop-b
invariant-loop-b l = length (iter_rest l.bytes) ≤ length (iter_rest l.initial.bytes)
