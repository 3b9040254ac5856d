-- `card::rules::any_of` meets its contract: a search through the rule's words. The measure is the words left. Assumes nothing.
use mathlib.Core.Path.{sym, ◌∙◌}
use native.Mathlib.Omega.{arith}
use Rattle.text.specs.Doc.{members_of}
use Rattle.card.specs.Catalog.{rule_at, rule_words}
use Rattle.card.proofs.Known.Columns.{rule_few}
use Rattle.card.proofs.Judging.Rules.{any_hit, any_on, any_end}
use Rattle.card.proofs.rules.any_of.Goals as goal

pub returns-then-counts : goal.returns-then-counts
returns-then-counts c =
    λ f s.
    let a = c.args in
    let loop = c.loop-j in
    sym (sym (loop.invariant f s) ∙ any_hit a.object.of (members_of a.on.now.text.now f) (rule_words (rule_at a.i)) loop.j
    (sym (rw c.rule_word-word.ensures at (c.counts.ensures f s)) ∙ c.if-counts.true))

pub loop-j-preserved : goal.loop-j-preserved
loop-j-preserved c =
    λ f s.
    let a = c.args in
    let loop = c.loop-j in
    sym (any_on a.object.of (members_of a.on.now.text.now f) (rule_words (rule_at a.i)) loop.j
    (sym (rw c.rule_word-word.ensures at (c.counts.ensures f s)) ∙ c.if-counts.false)) ∙ loop.invariant f s

pub returns : goal.returns
returns c =
    λ f s.
    let a = c.args in
    let loop = c.loop-j in
    sym (sym (loop.invariant f s) ∙ any_end a.object.of (members_of a.on.now.text.now f) (rule_words (rule_at a.i)) loop.j
    (omega (arith, rule_few a.i c.requires.rule, c.loop-j-test.false)))
