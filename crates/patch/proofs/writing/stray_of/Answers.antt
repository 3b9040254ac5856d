-- `patch::writing::stray_of` meets its contract. Assumes nothing.
use borrow.Author.Tests.{eq-eqb, ne_eqb}
use Rattle.patch.proofs.writing.stray_of.Goals as goal

pub returns-then-kind-eq-ARRAY : goal.returns-then-kind-eq-ARRAY
returns-then-kind-eq-ARRAY c = rw (eq-eqb _ _ c.if-kind-eq-ARRAY.true)

pub returns-else-kind-eq-ARRAY : goal.returns-else-kind-eq-ARRAY
returns-else-kind-eq-ARRAY c = rw (ne_eqb _ _ c.if-kind-eq-ARRAY.false)
