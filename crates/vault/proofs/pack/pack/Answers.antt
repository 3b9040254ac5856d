-- `vault::pack::pack` meets its contract, by the cases of reading's answer. Assumes nothing.
use lib.ListN.{length}
use Rattle.text.specs.Limits.{base}
use Rattle.vault.proofs.Finishing.{packs_refused, packs_finished}
use Rattle.vault.proofs.pack.pack.Goals as goal

pub returns-in-Err : goal.returns-in-Err
returns-in-Err c =
    let a = c.args in
    rw c.from.ensures
    (packs_refused base (length a.table.now) a.text.now (length a.out.now) (rw c.in-Err.is at c.read.ensures)
    (c.fill.ensures.after (λ y e. e)))

pub returns-in-Ok : goal.returns-in-Ok
returns-in-Ok c =
    let a = c.args in
    packs_finished base (length a.table.now) a.text.now (rw c.in-Ok.is at c.read.ensures) c.put_value-len.ensures
    c.read.auto.table c.finish.ensures
