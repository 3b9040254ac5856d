-- `json_reader::read::read_whole` meets its contract: one law of a text for each return. Assumes nothing.
use native.Mathlib.Omega.{arith}
use Rattle.std.proofs.lemmas.Result.{err_from_is_err_and}
use Rattle.text.specs.Limits.{base}
use Rattle.text.specs.Tokens.{skip}
use Rattle.text.specs.Reader.{value_at}
use Rattle.text.proofs.TokenEnds.{skip_span}
use Rattle.json_reader.specs.Readers.{limits_in, Gone}
use Rattle.json_reader.proofs.Endings.{text_stop, text_more, text_good}
use Rattle.json_reader.proofs.read.read_whole.Goals as goal

pub read_value-requires : goal.read_value-requires
read_value-requires c =
    let k = skip_span c.args.text.now 0 (omega arith) in
    record {
      store = c.requires.0;
      places = record { starts = omega arith; ends = omega arith };
      inside = omega (arith, c.skip-from.ensures, k.inside);
      few = omega arith;
      held = omega arith;
      fewer = omega arith;
      spread = omega arith;
    }

pub returns-then-end-text : goal.returns-then-end-text
returns-then-end-text c =
    let a = c.args in
    let g = rw c.skip-from.ensures at c.in_ok-to.ensures.0 in
    text_more (limits_in a.names.now) a.text.now c.requires.1 g.trees c.in_ok-to.to c.skip-end.result g.is c.skip-end.ensures c.if-end-text.true

pub returns : goal.returns
returns c =
    let a = c.args in
    let g = rw c.skip-from.ensures at c.in_ok-to.ensures.0 in (
      record {
        trees = g.trees;
        to = c.skip-end.result;
        is = text_good (limits_in a.names.now) a.text.now c.requires.1 g.trees c.in_ok-to.to c.skip-end.result g.is c.skip-end.ensures c.if-end-text.false;
        count = omega (arith, g.count);
        table = g.table;
      },
      g.few,
    )

pub returns-in_err-to : goal.returns-in_err-to
returns-in_err-to c =
    let a = c.args in
    let p = err_from_is_err_and c.from_residual.result c.from_residual.ensures.1 in
    rw (p.1, p.2) (text_stop (limits_in a.names.now) a.text.now c.requires.1 _ (rw c.skip-from.ensures at c.in_err-to.ensures.0))
