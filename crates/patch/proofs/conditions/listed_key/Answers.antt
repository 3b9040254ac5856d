-- `patch::conditions::listed_key` meets its contract: a word fits a place. Assumes nothing.
use native.Mathlib.Omega.{arith}
use Rattle.patch.proofs.conditions.listed_key.Goals as goal

pub overflow_cast-row : goal.overflow_cast-row
overflow_cast-row c = omega (arith, c.type_inv.rows c.args.i)
