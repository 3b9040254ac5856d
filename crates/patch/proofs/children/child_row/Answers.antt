-- What is inside an object stands in the rows below it, and there its member is sought. Assumes nothing.
use mathlib.Core.Path.{sym, ◌∙◌}
use native.Mathlib.Omega.{arith}
use Rattle.text.specs.Firsts.{inside_at}
use Rattle.json_reader.proofs.Seeking.{row_after_lem, row_inside, members_stand}
use Rattle.patch.proofs.Drafting.Children.{no_child, child_is}
use Rattle.patch.proofs.children.child_row.Goals as goal

pub returns-then-kind-ne-OBJECT : goal.returns-then-kind-ne-OBJECT
returns-then-kind-ne-OBJECT c = λ g limit h. no_child h.value _ _ (λ e. c.if-kind-ne-OBJECT.true (c.kind.ensures ∙ e))

pub overflow_add-first : goal.overflow_add-first
overflow_add-first c =
    let row = row_inside c.args.table.now c.args.row (omega (arith, c.kind.ensures, c.if-kind-ne-OBJECT.false)) in
    omega (arith, row, c.well_formed.1.0)

pub returns : goal.returns
returns c =
    λ g limit h.
    let kind = c.kind in
    let if1 = c.if-kind-ne-OBJECT in
    let row = row_inside c.args.table.now c.args.row (omega (arith, kind.ensures, if1.false)) in
    let next = row_after_lem c.args.table.now c.args.row c.next_row-end.ensures (omega (arith, row, c.well_formed.1.0)) in
    child_is h _ _ (sym kind.ensures ∙ if1.false) c.find.result
    (rw next at (c.find.ensures (inside_at g) (members_stand h.value.some h.value.stands next)))
