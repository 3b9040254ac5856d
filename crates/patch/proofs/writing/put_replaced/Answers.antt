-- `patch::writing::put_replaced` meets its contract: by the entry's kind. Assumes nothing.
use mathlib.Core.Path.{sym, ◌∙◌}
use native.Mathlib.Omega.{arith}
use Rattle.text.specs.Doc.{doc_of}
use Rattle.text.proofs.Promise.{doc_kind}
use Rattle.patch.proofs.Putting.Walks.{value_row}
use Rattle.patch.proofs.Putting.Kept.{change_null, change_set, passed_none, passed_some}
use Rattle.patch.proofs.writing.put_replaced.Goals as goal

pub returns-then-kind-eq-NULL : goal.returns-then-kind-eq-NULL
returns-then-kind-eq-NULL c =
    let a = c.args in
    record {
      marked = c.meet.ensures;
      ended = c.end_all.ensures;
      is =
          λ h d w.
          let v = doc_of a.ptext.now h in
          let null = doc_kind a.ptext.now h w.some ∙ sym (value_row w).kind ∙ sym c.kind.ensures ∙ c.if-kind-eq-NULL.true in
          passed_none a.from (omega (arith, c.well_formed.1.1.1.1.1.1.1.1.1.0.1)) (rw (change_null v null));
    }

pub returns : goal.returns
returns c =
    let a = c.args in
    record {
      marked = c.meet.ensures;
      ended = c.end_all.ensures;
      is =
          λ h d w.
          let text = a.ptext.now in
          let v = doc_of text h in
          let some_value = change_set v (λ e. c.if-kind-eq-NULL.false (c.kind.ensures ∙ (value_row w).kind ∙ sym (doc_kind text h w.some) ∙ e)) in
          rw c.behind.ensures (passed_some v (rw some_value) c.put_head-p.ensures (c.copy_value-to.ensures h w));
    }
