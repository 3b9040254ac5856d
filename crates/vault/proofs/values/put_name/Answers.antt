-- `vault::values::put_name` meets its contract: a field that is a good name, and then the field of the value. Assumes nothing.
use mathlib.Core.Path.{sym, ap, ◌∙◌}
use mathlib.Core.List.{[], ◌∷◌}
use Rattle.laws.specs.Lists.{part_of}
use Rattle.text.specs.Writing.{spelled}
use Rattle.packing.specs.Fields.{is_text}
use Rattle.output.proofs.Bytes.{wrote_then}
use Rattle.vault.proofs.Members.{name_torn, name_other, name_ill, named, named_torn}
use Rattle.vault.proofs.values.put_name.Goals as goal

pub returns-in_err-name : goal.returns-in_err-name
returns-in_err-name c = let a = c.args in rw c.from_residual.ensures (name_torn a.packed.now a.at a.end c.in_err-name.ensures)

pub returns-then-name-ne-NAME : goal.returns-then-name-ne-NAME
returns-then-name-ne-NAME c = let a = c.args in name_other a.packed.now a.at a.end c.in_ok-name.ensures c.if-name-ne-NAME.true

pub returns-then-not-is_text : goal.returns-then-not-is_text
returns-then-not-is_text c =
    let a = c.args in
    name_ill a.packed.now a.at a.end c.in_ok-name.ensures (ap is_text (sym c.content-content.ensures) ∙ sym c.is_text.ensures ∙ c.if-not-is_text.true)

pub returns-in_err-cut_at : goal.returns-in_err-cut_at
returns-in_err-cut_at c =
    let a = c.args in
    let good = ap is_text (sym c.content-content.ensures) ∙ sym c.is_text.ensures ∙ c.if-not-is_text.false in
    rw c.from_residual-in_err-cut_at.ensures
    (named_torn a.packed.now a.at a.end c.in_ok-name.ensures c.if-name-ne-NAME.false good c.in_err-cut_at.ensures)

pub returns : goal.returns
returns c =
    let a = c.args in
    let content = c.content-content.ensures in
    let good = ap is_text (sym content) ∙ sym c.is_text.ensures ∙ c.if-not-is_text.false in
    let name = c.in_ok-name.name in
    named a.packed.now a.at a.end c.in_ok-name.ensures c.if-name-ne-NAME.false good c.in_ok-cut_at.ensures
    (wrote_then (spelled (part_of a.packed.now name.from name.end)) (58 ∷ []) (rw content at c.put_string-p.ensures) c.put_byte-q.ensures)
