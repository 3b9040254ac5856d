-- `fields::walk::repeats_at` meets its contract: the test picks the case of `repeats_at`. Assumes nothing.
use borrow.Author.Tests.{eq-eqb, ne_eqb}
use Rattle.fields.specs.Survey.{repeats_at}
use Rattle.fields.proofs.walk.repeats_at.Goals as goal

pub returns-then-peek-eq-OBJECT : goal.returns-then-peek-eq-OBJECT
unfolding repeats_at
returns-then-peek-eq-OBJECT c =
    rw (← c.peek.ensures.value, eq-eqb _ _ c.if-peek-eq-OBJECT.true, ← c.requires.ends) c.repeats_in.ensures

pub returns-else-peek-eq-OBJECT : goal.returns-else-peek-eq-OBJECT
unfolding repeats_at
returns-else-peek-eq-OBJECT c = rw (← c.peek.ensures.value, ne_eqb _ _ c.if-peek-eq-OBJECT.false)
