-- `patch::conditions::first_key` meets its contract: 22 before 23, and 23 before 24. Assumes nothing.
use mathlib.Core.List.{[]}
use Rattle.patch.proofs.Listing.Conditions.{keys_said}
use Rattle.std.proofs.lemmas.Result.{err_from_is_err_and}
use Rattle.patch.proofs.conditions.first_key.Goals as goal

pub returns-in_err-key_condition : goal.returns-in_err-key_condition
returns-in_err-key_condition c place ms l s p =
    let a = c.args in
    let p' = err_from_is_err_and c.from_residual.result c.from_residual.ensures.1 in
    rw (
      p'.1,
      p'.2,
      ← keys_said a.text.now a.table.now a.rows.now a.n [] place p ms l s,
      ← c.in_err-key_condition.ensures,
    )

pub returns-in_err-key_condition-2 : goal.returns-in_err-key_condition-2
returns-in_err-key_condition-2 c place ms l s p =
    let a = c.args in
    let p' = err_from_is_err_and c.from_residual-in_err-key_condition-2.result c.from_residual-in_err-key_condition-2.ensures.1 in
    rw (
      p'.1,
      p'.2,
      ← keys_said a.text.now a.table.now a.rows.now a.n [] place p ms l s,
      ← c.in_ok-key_condition.ensures,
      ← c.in_err-key_condition-2.ensures,
    )

pub returns : goal.returns
returns c place ms l s p =
    let a = c.args in
    rw (
      ← keys_said a.text.now a.table.now a.rows.now a.n [] place p ms l s,
      ← c.in_ok-key_condition.ensures,
      ← c.in_ok-key_condition-2.ensures,
    )
    c.key_condition-3.ensures
