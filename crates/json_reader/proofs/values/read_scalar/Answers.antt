-- `json_reader::values::read_scalar` meets its contract: one law of `scalar_at` for each return. Assumes nothing.
use mathlib.Core.Path.{sym, ◌∙◌}
use native.Mathlib.Omega.{arith}
use Rattle.std.proofs.lemmas.Result.{err_from_is_err_and}
use Rattle.text.specs.Limits.{base}
use Rattle.text.specs.Tree.{none, leaf, size, rows_of}
use Rattle.text.proofs.TokenEnds.{token_span}
use Rattle.json_reader.proofs.Ways.{scalar_end, scalar_no}
use Rattle.json_reader.proofs.values.read_scalar.Goals as goal

pub returns-in_err-to : goal.returns-in_err-to
returns-in_err-to c =
    let a = c.args in
    let fault = c.in_err-to.field-0.0 in
    let (r, is, why) = err_from_is_err_and c.from_residual.result c.from_residual.ensures.1 in
    rw (is, why) (scalar_no base a.text.now a.kind a.ns a.ne a.at a.count (omega arith) fault (sym c.token_end.ensures ∙ c.in_err-to.was))

pub put_row-requires : goal.put_row-requires
put_row-requires c =
    let s = token_span c.args.text.now c.args.kind c.args.at c.in_ok-to.to c.requires.1 (sym c.token_end.ensures ∙ c.in_ok-to.was) in
    let p = c.requires in
    omega arith

pub returns : goal.returns
unfolding size rows_of
returns c =
    let a = c.args in
    let to = c.in_ok-to.to in
    let s = token_span c.args.text.now c.args.kind c.args.at c.in_ok-to.to c.requires.1 (sym c.token_end.ensures ∙ c.in_ok-to.was) in
    let token = sym c.token_end.ensures ∙ c.in_ok-to.was in
    record {
      trees = leaf a.kind a.ns a.ne a.at to none;
      is = scalar_end base a.text.now a.kind a.ns a.ne a.at a.count (omega arith) to token;
      count = omega arith;
      table = c.put_row.ensures;
      later = omega arith;
      inside = s.inside;
      few = omega arith;
    }
