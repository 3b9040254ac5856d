-- `card::schema::is_property` meets its contract: by the first bytes, or by the whole name. Assumes nothing.
use mathlib.Core.Path.{sym, ap, ◌∙◌}
use native.Mathlib.Omega.{arith}
use Rattle.laws.specs.Order.{same}
use Rattle.text.specs.Strings.{name_of}
use Rattle.card.proofs.Known.Columns.{lent_spelled, lent_short, lent_length, lent_apart}
use Rattle.card.proofs.schema.is_property.Goals as goal

pub may_be-requires : goal.may_be-requires
may_be-requires c = let p = c.requires in omega (arith, lent_length p.0.0, p.0.1)

pub returns-then-not-may_be : goal.returns-then-not-may_be
returns-then-not-may_be c =
    let a = c.args in
    let p = c.requires in
    let told = rw p.1 at c.may_be.ensures in
    lent_apart p.0.0 a.i p.0.1 a.on.now.text.now a.s a.e (sym told ∙ c.if-not-may_be.true)

pub sized_word-requires : goal.sized_word-requires
sized_word-requires c =
    let p = c.requires in omega (arith, lent_length p.0.0, p.0.1, lent_short p.0.0 c.args.i p.0.1)

pub returns : goal.returns
returns c =
    let a = c.args in
    let p = c.requires in
    c.name_is.ensures ∙ ap (same (name_of a.on.now.text.now a.s a.e)) (c.sized_word.ensures ∙ lent_spelled p.0.0 a.i p.0.1)
