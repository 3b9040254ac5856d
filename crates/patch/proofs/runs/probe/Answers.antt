-- `patch::runs::probe` meets its contract. Assumes nothing.
use native.Mathlib.Omega.{arith}
use Rattle.patch.proofs.runs.probe.Goals as goal

pub overflow_add-result : goal.overflow_add-result
overflow_add-result c = omega (arith, c.min-away.ensures)

pub returns-then-near-a : goal.returns-then-near-a
returns-then-near-a c = (omega (arith, c.min-away.ensures), omega (arith, c.min-away.ensures))

pub overflow_sub-result-then-b-near : goal.overflow_sub-result-then-b-near
overflow_sub-result-then-b-near c = omega (arith, c.min-away.ensures)

pub returns-then-b-near : goal.returns-then-b-near
returns-then-b-near c = (omega (arith, c.min-away.ensures), omega (arith, c.min-away.ensures))

pub returns : goal.returns
returns c = (omega arith, omega arith)
