-- `patch::conditions::first_astray` meets its contract: 25 before 26. Assumes nothing.
use Rattle.patch.proofs.Listing.Conditions.{walks_said}
use Rattle.std.proofs.lemmas.Result.{err_from_is_err_and}
use Rattle.patch.proofs.conditions.first_astray.Goals as goal

pub returns-in_err-one_condition : goal.returns-in_err-one_condition
returns-in_err-one_condition c place d ms l p w =
    let a = c.args in
    let p' = err_from_is_err_and c.from_residual.result c.from_residual.ensures.1 in
    rw (
      p'.1,
      p'.2,
      ← walks_said a.text.now a.table.now a.rows.now a.n a.walks.now place p d ms l w,
      ← c.in_err-one_condition.ensures,
    )

pub returns : goal.returns
returns c place d ms l p w =
    let a = c.args in
    rw (
      ← walks_said a.text.now a.table.now a.rows.now a.n a.walks.now place p d ms l w,
      ← c.in_ok-one_condition.ensures,
    )
    c.one_condition-2.ensures
