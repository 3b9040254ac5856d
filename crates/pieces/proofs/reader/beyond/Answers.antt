-- `pieces::reader::beyond` meets its contract: an answer stays, and without one it is 1. Assumes nothing.
use mathlib.Core.Path.{sym, ap, ◌∙◌}
use native.Mathlib.Omega.{arith}
use Rattle.text.specs.Sheet.{paper, refused}
use Rattle.wire.specs.Machine.{cut_off}
use Rattle.wire.specs.Held.{held_of}
use Rattle.pieces.proofs.Steps.{at_going, at_over}
use Rattle.pieces.proofs.reader.beyond.Goals as goal

pub returns-then-h-ge-OVER : goal.returns-then-h-ge-OVER
returns-then-h-ge-OVER c =
    let h = c.args.h in
    let o = at_over h.place h c.if-h-ge-OVER.true in
    c.tidy.ensures ∙ ap held_of (o ∙ sym (ap cut_off o))

pub returns : goal.returns
unfolding held_of paper refused
returns c =
    let h = c.args.h in
    rw (c.alone.ensures, at_going h.place h (omega arith))
