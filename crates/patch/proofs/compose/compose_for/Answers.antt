-- By what the card has for the language: no localizations, nothing, no object, or a PatchObject. Assumes nothing.
use native.Mathlib.Omega.{arith}
use Rattle.json_reader.proofs.Seeking.{row_inside}
use Rattle.patch.proofs.Drafting.Cards.{for_none, for_nothing, for_other, for_object}
use mathlib.Core.Path.{sym, ◌∙◌}
use Rattle.patch.proofs.compose.compose_for.Goals as goal

pub returns-in_default : goal.returns-in_default
returns-in_default c =
    let a = c.args in
    for_none a.language.now c.child_row.ensures _ c.in_default.is

pub returns-in_default-child_row : goal.returns-in_default-child_row
returns-in_default-child_row c =
    let child-row = c.child_row in
    let child-row2 = c.child_row-2 in
    let a = c.args in
    for_nothing a.language.now child-row.ensures c.in-Some.is child-row2.result child-row2.ensures _ c.in_default-child_row.is

pub returns-then-kind-ne-OBJECT : goal.returns-then-kind-ne-OBJECT
returns-then-kind-ne-OBJECT c =
    let child-row = c.child_row in
    let child-row2 = c.child_row-2 in
    let a = c.args in
    for_other a.language.now child-row.ensures c.in-Some.is child-row2.result child-row2.ensures c.in-Some-child_row.is _
    (λ e. c.if-kind-ne-OBJECT.true (c.kind.ensures ∙ e))

pub compose-requires : goal.compose-requires
compose-requires c =
    let a = c.args in
    omega (arith, row_inside a.table.now c.in-Some-child_row.patch (omega (arith, c.kind.ensures, c.if-kind-ne-OBJECT.false)))

pub returns : goal.returns
returns c =
    let child-row = c.child_row in
    let child-row2 = c.child_row-2 in
    let kind = c.kind in
    let if1 = c.if-kind-ne-OBJECT in
    let compose = c.compose in
    let a = c.args in
    for_object a.language.now child-row.ensures c.in-Some.is child-row2.result child-row2.ensures c.in-Some-child_row.is _ _
    compose.result (sym kind.ensures ∙ if1.false) compose.ensures
