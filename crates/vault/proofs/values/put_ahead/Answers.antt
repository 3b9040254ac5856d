-- `vault::values::put_ahead` meets its contract. Assumes nothing.
use Rattle.vault.proofs.Members.{heads_object, heads_torn, heads_array}
use Rattle.vault.proofs.values.put_ahead.Goals as goal

pub returns-then-tag-eq-OBJECT : goal.returns-then-tag-eq-OBJECT
returns-then-tag-eq-OBJECT c =
    let a = c.args in
    heads_object a.packed.now a.tag a.first a.at a.end c.if-tag-eq-OBJECT.true _ c.put_comma-p.ensures c.put_name.result c.put_name.ensures

pub returns-in_err-cut_at : goal.returns-in_err-cut_at
returns-in_err-cut_at c =
    let a = c.args in rw c.from_residual.ensures (heads_torn a.packed.now a.tag a.at a.end c.if-tag-eq-OBJECT.false c.in_err-cut_at.ensures)

pub returns : goal.returns
returns c =
    let a = c.args in
    heads_array a.packed.now a.tag a.at a.end c.if-tag-eq-OBJECT.false a.first c.put_comma-p.ensures c.in_ok-cut_at.ensures
