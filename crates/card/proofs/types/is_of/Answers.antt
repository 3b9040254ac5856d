-- `card::types::is_of` meets its contract, by the rows of the value. Assumes nothing.
use mathlib.Core.Path.{ap, ◌∙◌}
use native.Mathlib.Omega.{arith}
use borrow.Author.Tests.{eq-eqb, ne_eqb}
use Rattle.text.specs.Text.{bytes}
use Rattle.text.specs.Firsts.{inside_at}
use Rattle.text.specs.Doc.{Name, members_of, seek}
use Rattle.contact.specs.Rules.{has_kind}
use Rattle.contact.specs.Judge.{is_of}
use Rattle.card.proofs.Judging.Values.{value_kind, value_members, value_below, value_room}
use Rattle.card.proofs.types.is_of.Goals as goal

pub returns-then-kind-ne-OBJECT : goal.returns-then-kind-ne-OBJECT
unfolding is_of
returns-then-kind-ne-OBJECT c =
    λ f v.
    let a = c.args in
    rw (← value_kind a.on.now.text.now f v, ← c.kind.ensures, ne_eqb c.kind.result 7 c.if-kind-ne-OBJECT.true)

-- an object is one of the table
pub returns : goal.returns
unfolding is_of
returns c =
    λ f v.
    let a = c.args in
    let text = a.on.now.text.now in
    let kind = c.kind in
    rw (← value_kind text f v, ← kind.ensures, eq-eqb kind.result 7 c.if-kind-ne-OBJECT.false, value_below text f)
    (c.has_string.ensures (inside_at f) (value_members text f v c.next_row-end.ensures (omega (arith, value_room text f v)))
    ∙ ap (λ (n : Name). has_kind n (seek (bytes "@type") (members_of text (inside_at f)))) c.type_name.ensures)
