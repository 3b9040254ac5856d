-- `card::inside::is_string` meets its contract, by the words of the row. Assumes nothing.
use mathlib.Core.Path.{◌≡◌}
use native.Mathlib.Omega.{arith}
use borrow.Author.Tests.{eq-eqb, ne_eqb}
use Rattle.contact.specs.Rules.{is_string}
use Rattle.card.proofs.Judging.Values.{value_kind, value_token}
use Rattle.card.proofs.inside.is_string.Goals as goal

pub returns-then-kind-ne-STRING : goal.returns-then-kind-ne-STRING
unfolding is_string
returns-then-kind-ne-STRING c =
    λ f v.
    let a = c.args in
    rw (← value_kind a.on.now.text.now f v, ← c.kind.ensures, ne_eqb c.kind.result 5 c.if-kind-ne-STRING.true)

pub returns : goal.returns
unfolding is_string
returns c =
    λ f v.
    let a = c.args in
    let text = a.on.now.text.now in
    let kind = c.kind in
    let if1 = c.if-kind-ne-STRING in
    let five : c.kind.result ≡ 5 = if1.false in
    rw (
      ← value_kind text f v,
      ← kind.ensures,
      eq-eqb kind.result 5 five,
      value_token text f v (omega (arith, kind.ensures)),
      ← c.value_start.ensures,
      ← c.value_end.ensures,
    ) c.is_content.ensures
