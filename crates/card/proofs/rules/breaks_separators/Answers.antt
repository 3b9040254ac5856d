-- `card::rules::breaks_separators` meets its contract. Assumes nothing.
use Rattle.laws.proofs.Picks.{denied}
use Rattle.text.specs.Doc.{members_of}
use Rattle.contact.specs.Rules.{present, marks}
use Rattle.card.proofs.Judging.Separators.{no_separator}
use Rattle.card.proofs.rules.breaks_separators.Goals as goal

pub returns-then-not-m : goal.returns-then-not-m
returns-then-not-m c =
    λ f s.
    let a = c.args in
    let first = c.rule_word-first in
    let m = c.tally_in-m in
    rw (← first.ensures)
    (no_separator m.result (marks (present a.object.of first.result.now (members_of a.on.now.text.now f))) (m.ensures f s) _ (denied m.result.any c.if-not-m.true))

pub returns : goal.returns
returns c =
    λ f s.
    let a = c.args in
    let first = c.rule_word-first in
    rw (← first.ensures, ← c.rule_word-second.ensures, ← c.is_true-ordered.ensures f s)
    (c.badly_separated.ensures (marks (present a.object.of first.result.now (members_of a.on.now.text.now f))) (c.tally_in-m.ensures f s))
