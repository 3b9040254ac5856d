-- `vault::pack::put_named` meets its contract. Assumes nothing.
use native.Mathlib.Omega.{arith}
use borrow.Author.Tests.{eq-eqb, ne_eqb}
use Rattle.text.specs.Strings.{name_of}
use Rattle.json_reader.specs.Rows.{name_start_in, name_end_in}
use Rattle.vault.proofs.Laying.{laid_none, laid_of, laid_field}
use Rattle.vault.proofs.pack.put_named.Goals as goal

pub returns-then-kind-ne-OBJECT : goal.returns-then-kind-ne-OBJECT
returns-then-kind-ne-OBJECT c = let a = c.args in rw (ne_eqb a.kind 7 c.if-kind-ne-OBJECT.true) (laid_none a.at)

pub returns : goal.returns
returns c =
    let a = c.args in
    let name = name_of a.text.now (name_start_in a.table.now a.row) (name_end_in a.table.now a.row) in
    let wrote = rw (c.name_start-ns.ensures, c.name_end-ne.ensures) at c.put_name-end.ensures in
    rw (eq-eqb a.kind 7 c.if-kind-ne-OBJECT.false) (laid_field 8 (omega arith) c.behind_head.ensures name (laid_of wrote) c.put_head.ensures)
