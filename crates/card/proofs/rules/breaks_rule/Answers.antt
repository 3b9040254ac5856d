-- `card::rules::breaks_rule` meets its contract: number and words are those of the rule. Assumes nothing.
use mathlib.Core.Path.{◌∙◌}
use Rattle.text.specs.Doc.{members_of}
use Rattle.card.proofs.Judging.Rules.{rule_told}
use Rattle.card.proofs.rules.breaks_rule.Goals as goal

pub returns : goal.returns
returns c =
    λ f s.
    let a = c.args in
    let p = c.requires in
    c.breaks_shape.ensures f s ∙ rw (p.on.0.numbers_are.shape a.i p.rule) (rule_told a.object.of (members_of a.on.now.text.now f) a.i)
