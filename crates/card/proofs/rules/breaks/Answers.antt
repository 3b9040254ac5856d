-- `card::rules::breaks` meets its contract: a search through the object type's rules. The measure is those left. Assumes nothing.
use mathlib.Core.Path.{sym, ◌∙◌}
use native.Mathlib.Omega.{arith}
use Rattle.text.specs.Doc.{members_of}
use Rattle.contact.specs.Schema.{rules_of}
use Rattle.card.proofs.Known.Columns.{rules_length}
use Rattle.card.proofs.Known.Search.{left_hit, left_on, left_end, breaks_first}
use Rattle.card.proofs.rules.breaks.Goals as goal

pub breaks_rule-requires : goal.breaks_rule-requires
breaks_rule-requires c =
    let p = c.requires in
    let s = c.rules_of-own.ensures in
    record { on = p; rule = omega (arith, s.within, rules_length, c.loop-i-test.true) }

pub returns-then-breaks_rule : goal.returns-then-breaks_rule
returns-then-breaks_rule c =
    λ f s.
    let a = c.args in
    left_hit _ _ _ _ _ _ _ _ c.rules_of-own.ensures (c.loop-i.invariant f s) c.loop-i-test.true (sym (c.breaks_rule.ensures f s) ∙ c.if-breaks_rule.true)
    ∙ breaks_first a.object.of (members_of a.on.now.text.now f) (rules_of a.object.of)

pub loop-i-preserved : goal.loop-i-preserved
loop-i-preserved c =
    λ f s.
    left_on _ _ _ _ _ _ _ _ c.rules_of-own.ensures (c.loop-i.invariant f s) c.loop-i-test.true (sym (c.breaks_rule.ensures f s) ∙ c.if-breaks_rule.false)

pub returns : goal.returns
returns c =
    λ f s.
    let a = c.args in
    left_end _ _ _ _ _ _ _ _ c.rules_of-own.ensures (c.loop-i.invariant f s) c.loop-i-test.false ∙ breaks_first a.object.of (members_of a.on.now.text.now f) (rules_of a.object.of)
