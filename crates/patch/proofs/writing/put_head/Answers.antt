-- `patch::writing::put_head` meets its contract. Assumes nothing.
use mathlib.Core.List.{[], ◌∷◌, ◌++◌, append-nil}
use borrow.Author.Tests.{eq-eqb, ne_eqb}
use Rattle.text.specs.Writing.{comma}
use Rattle.patch.specs.Copied.{label_in}
use Rattle.output.proofs.Bytes.{wrote_then}
use Rattle.patch.proofs.writing.put_head.Goals as goal

pub returns-then-kind-eq-OBJECT : goal.returns-then-kind-eq-OBJECT
returns-then-kind-eq-OBJECT c =
    let a = c.args in
    let put-comma = c.put_comma-a in
    let if1 = c.if-kind-eq-OBJECT in
    let name_starts = c.name_start-ns in
    let name_ends = c.name_end-ne in
    let put-label = c.put_label-b in
    let label = label_in a.text.now a.table.now a.row in
    let wrote = rw (name_starts.ensures, name_ends.ensures) at put-label.ensures in
    rw (eq-eqb a.kind 7 if1.true) (wrote_then (comma a.first) (label ++ (58 ∷ [])) put-comma.ensures
    (wrote_then label (58 ∷ []) wrote c.put_byte.ensures))

pub returns : goal.returns
returns c =
    let a = c.args in
    rw (ne_eqb a.kind 7 c.if-kind-eq-OBJECT.false, append-nil (comma a.first)) c.put_comma-a.ensures
