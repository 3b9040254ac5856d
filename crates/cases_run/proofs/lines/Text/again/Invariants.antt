-- The text fits into its buffer, and keeps it. Assumes nothing.
use Rattle.cases_run.specs.Counts.{Fits, Keeps}
use Rattle.cases_run.proofs.lines.Text.again.Given as goal

abbrev pub invariant-loop : goal.invariant-loop
invariant-loop l = Fits l.self × Keeps l.initial.self l.self
