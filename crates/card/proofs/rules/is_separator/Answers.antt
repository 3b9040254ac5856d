-- `card::rules::is_separator` meets its contract, by the rows of the entry. Assumes nothing.
use native.Mathlib.Omega.{arith}
use borrow.Author.Tests.{eq-eqb, ne_eqb}
use Rattle.text.specs.Firsts.{inside_at}
use Rattle.contact.specs.Rules.{is_separator}
use Rattle.card.proofs.Judging.Values.{value_kind, value_members, value_below, value_room}
use Rattle.card.proofs.rules.is_separator.Goals as goal

pub returns-then-kind-ne-OBJECT : goal.returns-then-kind-ne-OBJECT
unfolding is_separator
returns-then-kind-ne-OBJECT c =
    λ f v.
    let a = c.args in
    rw (← value_kind a.on.now.text.now f v, ← c.kind.ensures, ne_eqb c.kind.result 7 c.if-kind-ne-OBJECT.true)

-- an object is one of the table
pub returns : goal.returns
unfolding is_separator
returns c =
    λ f v.
    let a = c.args in
    let text = a.on.now.text.now in
    let kind = c.kind in
    let if1 = c.if-kind-ne-OBJECT in
    let next_row = c.next_row-end in
    rw (← value_kind text f v, ← kind.ensures, eq-eqb kind.result 7 if1.false, value_below text f)
    (c.has_string.ensures (inside_at f) (value_members text f v next_row.ensures (omega (arith, value_room text f v))))
