-- `json_reader::containers::container_of` meets its contract: by the test of the kind. Assumes nothing.
use borrow.Author.Tests.{eq-eqb, ne_eqb}
use Rattle.json_reader.proofs.containers.container_of.Goals as goal

pub returns-then-kind-eq-ARRAY : goal.returns-then-kind-eq-ARRAY
returns-then-kind-eq-ARRAY c = rw (eq-eqb _ _ c.if-kind-eq-ARRAY.true)

pub returns : goal.returns
returns c = rw (ne_eqb _ _ c.if-kind-eq-ARRAY.false)
