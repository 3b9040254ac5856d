-- `vault::values::put_bare` meets its contract. Assumes nothing.
use Rattle.vault.proofs.Members.{bare_so, bare_not, part_whole}
use Rattle.vault.proofs.values.put_bare.Goals as goal

pub returns-then-content-ne0 : goal.returns-then-content-ne0
returns-then-content-ne0 c = let a = c.args in λ kind. bare_not kind a.word.now a.content.now c.if-content-ne0.true

pub returns : goal.returns
returns c =
    let a = c.args in
    λ kind.
    record { doc = _; is = bare_so kind a.word.now a.content.now c.if-content-ne0.false; wrote = rw (part_whole a.word.now) at c.put_run.ensures }
