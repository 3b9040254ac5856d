-- The text fits into its buffer, and keeps it. Assumes nothing.
use Rattle.cases_run.specs.Counts.{Fits, Keeps}
use Rattle.cases_run.proofs.lines.Text.extend.Given as goal

abbrev pub invariant-loop-b : goal.invariant-loop-b
invariant-loop-b l = Fits l.self × Keeps l.initial.self l.self
