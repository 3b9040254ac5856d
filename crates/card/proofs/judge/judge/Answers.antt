-- `card::judge::judge` meets its contract: behind the rows of a card that passes the table is cleared. Assumes nothing.
use Rattle.text.specs.Limits.{base}
use Rattle.card.proofs.Judging.Verdict.{rows_fit}
use Rattle.card.proofs.judge.judge.Goals as goal

pub clear_behind-requires : goal.clear_behind-requires
clear_behind-requires c =
    let a = c.args in
    let k = c.judge_kept-v in
    rows_fit base a.text.now a.table.now k.new.table k.result k.auto.table k.ensures

pub returns : goal.returns
returns c =
    let a = c.args in
    c.clear_behind.ensures base a.text.now a.table.now c.judge_kept-v.ensures
