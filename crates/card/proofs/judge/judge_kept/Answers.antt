-- `card::judge::judge_kept` meets its contract. Assumes nothing.
use Rattle.text.specs.Limits.{base}
use Rattle.card.proofs.judge.judge_kept.Goals as goal

pub returns : goal.returns
returns c =
    let read = c.read_rows-read in
    c.judge_read.ensures base c.args.table.now (record { long = read.auto.table; reads = read.ensures })
