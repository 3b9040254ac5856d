-- `card::rules::breaks_then` meets its contract: each shape by its number. Assumes nothing.
use mathlib.Core.Path.{◌≡◌, sym, ap, ◌∙◌}
use mathlib.Core.Bool.{not}
use Rattle.laws.specs.Tests.{all_marks}
use Rattle.laws.proofs.Picks.{picks}
use Rattle.text.specs.Doc.{members_of}
use Rattle.contact.specs.Rules.{present, marks}
use Rattle.card.specs.Catalog.{rule_at, rule_words}
use Rattle.card.specs.RuleTable.{present_word, then_broken}
use Rattle.card.proofs.Judging.Separators.{told_all}
use Rattle.card.proofs.rules.breaks_then.Goals as goal

pub returns-in-1 : goal.returns-in-1
unfolding then_broken
returns-in-1 c = λ f s. ap not (c.any_of.ensures f s) ∙ rw c.in-1.is

pub returns-in-2 : goal.returns-in-2
unfolding then_broken
returns-in-2 c = λ f s. ap not (c.is_this_string.ensures f s) ∙ rw (c.in-2.is, c.rule_word-second.ensures, c.rule_word-third.ensures)

pub returns-in-3 : goal.returns-in-3
unfolding then_broken
returns-in-3 c = λ f s. ap not (c.is_true.ensures f s) ∙ rw (c.in-3.is, c.rule_word-second-in-3.ensures)

pub returns-in_default : goal.returns-in_default
unfolding then_broken
returns-in_default c =
    λ f s.
    let a = c.args in
    let ss = marks (present a.object.of c.rule_word-first.result.now (members_of a.on.now.text.now f)) in
    let told = rw c.rule_word-first.ensures at (told_all c.tally_in-m.result ss (c.tally_in-m.ensures f s)) in
    let last : all_marks (marks (present_word c.args.object.of (members_of c.args.on.now.text.now f) (rule_words (rule_at c.args.i)) 0))
    ≡ then_broken c.args.object.of (members_of c.args.on.now.text.now f) c.args.shape (rule_words (rule_at c.args.i)) = search picks in
    sym told ∙ last
