-- `json_reader::values::close` meets its contract, by the cases of what was read inside. Assumes nothing.
use Rattle.std.specs.Prelude.{Ok}
use mathlib.Core.Path.{refl}
use native.Mathlib.Omega.{arith}
use Rattle.std.proofs.lemmas.Result.{err_from_is_err_and}
use Rattle.json_reader.specs.Readers.{Closable}
use Rattle.json_reader.proofs.values.close.Goals as goal

-- where the inside was read, what is required says so
opened : (c : goal.After-put_row-arg-1) → Closable c.args.count (Ok (c.in_ok-to.to, c.in_ok-to.after))
opened c = rw c.in_ok-to.was at c.requires.0

pub overflow_sub-after : goal.overflow_sub-after
overflow_sub-after c = omega (arith, opened c)

pub overflow_sub-after-2 : goal.overflow_sub-after-2
overflow_sub-after-2 c = omega (arith, opened c)

pub put_row-requires : goal.put_row-requires
put_row-requires c =
    let p = c.requires.1 in
    let o = opened c in
    record {
      row_fits = p.row_fits;
      kind_fits = p.kind_fits;
      ns_fits = p.ns_fits;
      ne_fits = p.ne_fits;
      from_fits = p.from_fits;
      to_fits = o.1.1;
      below_fits = omega arith;
    }

pub returns : goal.returns
returns c = rw c.in_ok-to.was (refl, c.put_row.ensures)

pub returns-in_err-to : goal.returns-in_err-to
returns-in_err-to c =
    let p = err_from_is_err_and c.from_residual.result c.from_residual.ensures.1 in
    rw (p.1, p.2, c.in_err-to.was) refl
