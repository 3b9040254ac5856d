-- `patch::names::put_label` meets its contract. Assumes nothing.
use native.Mathlib.Omega.{arith}
use Rattle.text.proofs.Promise.{label_part}
use Rattle.output.proofs.Bytes.{wrote_none}
use Rattle.patch.proofs.Putting.Labels.{label_none, label_out}
use Rattle.patch.proofs.names.put_label.Goals as goal

pub returns-then-ns-eq0 : goal.returns-then-ns-eq0
returns-then-ns-eq0 c =
    let a = c.args in
    rw (label_none a.text.now a.ns a.ne c.if-ns-eq0.true) (wrote_none a.at (omega arith))

pub returns-then-text-ne : goal.returns-then-text-ne
returns-then-text-ne c =
    let a = c.args in
    rw (label_out a.text.now a.ns a.ne c.if-ns-eq0.false c.if-text-ne.true) (wrote_none a.at (omega arith))

pub returns : goal.returns
returns c =
    let a = c.args in
    rw (label_part a.text.now a.ns a.ne (omega arith)) c.put_run.ensures
