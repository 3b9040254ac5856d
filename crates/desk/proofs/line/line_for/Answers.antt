-- `desk::line::line_for` meets its contract: an input over the buffer is what the buffer holds, and more. Assumes nothing.
use mathlib.Core.Path.{◌≡◌, sym, ◌∙◌}
use mathlib.Core.Bool.{true}
use native.Mathlib.Omega.{arith}
use lib.Dec.{ltb}
use lib.ListN.{length}
use lib.Seq.{length-take-le}
use borrow.Author.Tests.{ltb-true}
use Rattle.desk.specs.Line.{buffer}
use Rattle.desk.proofs.Inputs.{says_longer, says_whole}
use Rattle.desk.proofs.line.line_for.Goals as goal

-- the test tells what it is asked
over : (c : goal.Then-is_over) → ltb buffer (length c.args.input.now) ≡ true
over c = sym c.is_over.ensures ∙ c.if-is_over.true

pub slice_bounds-line_of-end : goal.slice_bounds-line_of-end
slice_bounds-line_of-end c =
    let input = c.args.input.now in
    let l = ltb-true buffer (length input) (over c) in
    sym (length-take-le buffer input (omega arith))

-- the test tells what it is asked
over_2 : (c : goal.After-slice_known-then-is_over-1) → ltb buffer (length c.args.input.now) ≡ true
over_2 c = sym c.is_over.ensures ∙ c.if-is_over.true

pub returns-then-is_over : goal.returns-then-is_over
returns-then-is_over c =
    says_longer c.args.input.now (length c.args.table.now) (over_2 c) c.line_of.ensures

pub returns : goal.returns
returns c =
    says_whole c.args.input.now (length c.args.table.now) (sym c.is_over.ensures ∙ c.if-is_over.false) c.line_of-2.ensures
