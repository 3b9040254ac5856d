-- `patch::writing::put_addition` meets its contract. Assumes nothing.
use mathlib.Core.Path.{sym, ◌∙◌}
use mathlib.Core.List.{[], ◌∷◌, ◌++◌}
use native.Mathlib.Omega.{arith}
use Rattle.text.specs.Doc.{doc_of}
use Rattle.text.specs.Writing.{comma, spelled}
use Rattle.text.proofs.Promise.{doc_kind}
use Rattle.contact.specs.Pointer.{pointer_of, first_part}
use Rattle.json_reader.specs.Cursors.{rest, cursor}
use Rattle.patch.specs.Children.{key_bytes}
use Rattle.output.proofs.Bytes.{wrote_then}
use Rattle.patch.proofs.Putting.Walks.{value_row}
use Rattle.patch.proofs.Putting.Kept.{change_null, change_set, passed_none, passed_some}
use Rattle.patch.proofs.writing.put_addition.Goals as goal

pub returns-then-kind-eq-NULL : goal.returns-then-kind-eq-NULL
returns-then-kind-eq-NULL c =
    λ h d w.
    let a = c.args in
    let v = doc_of a.ptext.now h in
    let null = doc_kind a.ptext.now h w.some ∙ sym (value_row w).kind ∙ sym c.kind.ensures ∙ c.if-kind-eq-NULL.true in
    passed_none a.from (omega (arith, c.well_formed.1.1.1.1.0.1)) (rw (change_null v null))

pub returns : goal.returns
returns c =
    λ h d w.
    let a = c.args in
    let ptext = a.ptext.now in
    let kind = c.kind in
    let v = doc_of ptext h in
    let label = spelled (first_part (pointer_of (rest (key_bytes ptext a.ptable.now a.e) (cursor a.place 0 0)))) in
    let put-spelled = rw (c.cursor_at.ensures, c.key_at.ensures) at c.put_spelled-b.ensures in
    let is = change_set v (λ e. c.if-kind-eq-NULL.false (kind.ensures ∙ (value_row w).kind ∙ sym (doc_kind ptext h w.some) ∙ e)) in
    rw c.behind.ensures
    (passed_some v (rw is)
    (wrote_then (comma a.from.first) (label ++ (58 ∷ [])) c.put_comma-a.ensures
    (wrote_then label (58 ∷ []) put-spelled c.put_byte-d.ensures))
    (c.copy_value-to.ensures h w))
