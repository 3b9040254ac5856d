-- `card::judge::judge_loose` meets its contract: behind the rows of a card that passes the table is cleared. Assumes nothing.
use mathlib.Core.Path.{◌∙◌}
use Rattle.text.specs.Limits.{base, loose}
use Rattle.card.proofs.Judging.Verdict.{rows_fit}
use Rattle.card.proofs.judge.judge_loose.Goals as goal

pub clear_behind-requires : goal.clear_behind-requires
clear_behind-requires c =
    let a = c.args in
    let read = c.read_loose-read in
    let k = c.judge_read-v in
    rows_fit (loose base) a.text.now a.table.now k.new.table k.result (k.auto.table ∙ read.auto.table)
    (k.ensures (loose base) a.table.now (record { long = read.auto.table; reads = read.ensures }))

pub returns : goal.returns
returns c =
    let a = c.args in
    let read = c.read_loose-read in
    c.clear_behind.ensures (loose base) a.text.now a.table.now
    (c.judge_read-v.ensures (loose base) a.table.now (record { long = read.auto.table; reads = read.ensures }))
