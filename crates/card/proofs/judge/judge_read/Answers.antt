-- `card::judge::judge_read` meets its contract, by the cases of reading's answer. Assumes nothing.
use Rattle.std.proofs.lemmas.Result.{err_from_is_err_and}
use Rattle.card.proofs.Judging.Verdict.{read_into, rows_judged, text_refused}
use Rattle.card.proofs.judge.judge_read.Goals as goal

pub judge_rows-requires : goal.judge_rows-requires
judge_rows-requires c =
    let a = c.args in
    let (L, lent, was) = c.requires in
    let (f, h, is) = read_into L a.text.now lent a.table.now c.in_ok-read.field-0 was.long (rw c.in_ok-read.was at was.reads) in
    (L, f, h)

pub returns-in_err-read : goal.returns-in_err-read
returns-in_err-read c =
    λ L lent was.
    let a = c.args in
    let (r, is, why) = err_from_is_err_and c.from_residual.result c.from_residual.ensures.1 in
    rw (is, why) (text_refused L a.text.now lent a.table.now c.in_err-read.field-0.0 (rw c.in_err-read.was at was.reads))

pub returns : goal.returns
returns c =
    λ L lent was.
    let a = c.args in
    let k = c.judge_rows in
    let (f, h, is) = read_into L a.text.now lent a.table.now c.in_ok-read.field-0 was.long (rw c.in_ok-read.was at was.reads) in
    rows_judged L a.text.now lent a.table.now k.new.table c.in_ok-read.field-0 f k.result was.long h is (k.ensures L f h)
