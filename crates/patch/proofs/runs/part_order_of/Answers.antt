-- `patch::runs::part_order_of` meets its contract: by the cue. Assumes nothing.
use mathlib.Core.Path.{◌∙◌}
use native.Mathlib.Omega.{arith}
use lib.ListN.{get_or}
use borrow.Author.Tests.{lt-ltb, le-ltb}
use Rattle.patch.specs.Marks.{met, part_at}
use Rattle.patch.proofs.runs.part_order_of.Goals as goal

pub returns-then-cue-ge-MET : goal.returns-then-cue-ge-MET
unfolding part_at
returns-then-cue-ge-MET c =
    let a = c.args in
    c.name_order.ensures ∙ rw (c.key_at.ensures, le-ltb (get_or a.cues.now a.i 0) met c.if-cue-ge-MET.true)

pub returns : goal.returns
unfolding part_at
returns c =
    let a = c.args in
    c.part_order_at.ensures
    ∙ rw (c.key_at-key.ensures, lt-ltb (get_or a.cues.now a.i 0) met (omega (arith, c.if-cue-ge-MET.false)))

pub overflow_cast-cue : goal.overflow_cast-cue
overflow_cast-cue c = omega (arith, c.type_inv.cues c.args.i)

pub overflow_cast-rows : goal.overflow_cast-rows
overflow_cast-rows c = omega (arith, c.type_inv.rows c.args.i)
