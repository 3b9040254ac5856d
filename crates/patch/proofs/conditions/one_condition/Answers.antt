-- `patch::conditions::one_condition` meets its contract: by the row that is named. Assumes nothing.
use Rattle.std.specs.Prelude.{Err}
use mathlib.Core.Path.{ap}
use Rattle.patch.proofs.conditions.one_condition.Goals as goal

pub returns-in_default : goal.returns-in_default
returns-in_default c = rw (← c.least.ensures, c.in_default.is)

pub returns : goal.returns
returns c =
    rw (← c.least.ensures, c.in-Some.is, ← c.quote_at.ensures) (ap Err c.refusal.ensures)
