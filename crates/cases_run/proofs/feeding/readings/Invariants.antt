-- Each turn passes a length. Assumes nothing.
use Rattle.std.proofs.Common.{length}
use Rattle.cases_run.proofs.feeding.readings.Given as goal

abbrev pub decreases-loop-rest : goal.decreases-loop-rest
decreases-loop-rest g l = length l.rest
