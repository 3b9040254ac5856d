-- `card::rules::breaks_shape` meets its contract: each shape by its number. Assumes nothing.
use mathlib.Core.Path.{ap, ◌∙◌}
use mathlib.Core.Bool.{not}
use borrow.Author.Tests.{eq-eqb, ne_eqb}
use Rattle.card.specs.RuleTable.{by_shape}
use Rattle.card.proofs.rules.breaks_shape.Goals as goal

pub returns-then-shape-eq-ONE_OF : goal.returns-then-shape-eq-ONE_OF
unfolding by_shape
returns-then-shape-eq-ONE_OF c = λ f s. ap not (c.any_of.ensures f s) ∙ rw (eq-eqb c.args.shape 0 c.if-shape-eq-ONE_OF.true)

pub returns-then-shape-eq-SEPARATORS : goal.returns-then-shape-eq-SEPARATORS
unfolding by_shape
returns-then-shape-eq-SEPARATORS c =
    λ f s.
    let a = c.args in
    c.breaks_separators.ensures f s ∙ rw (ne_eqb a.shape 0 c.if-shape-eq-ONE_OF.false, eq-eqb a.shape 4 c.if-shape-eq-SEPARATORS.true)

pub returns-then-not-counts : goal.returns-then-not-counts
unfolding by_shape
returns-then-not-counts c =
    λ f s.
    let a = c.args in
    rw (
      ne_eqb a.shape 0 c.if-shape-eq-ONE_OF.false,
      ne_eqb a.shape 4 c.if-shape-eq-SEPARATORS.false,
      ← c.rule_word-first.ensures,
      ← c.counts.ensures f s,
      c.if-not-counts.true,
    )

pub returns : goal.returns
unfolding by_shape
returns c =
    λ f s.
    let a = c.args in
    rw (
      ne_eqb a.shape 0 c.if-shape-eq-ONE_OF.false,
      ne_eqb a.shape 4 c.if-shape-eq-SEPARATORS.false,
      ← c.rule_word-first.ensures,
      ← c.counts.ensures f s,
      c.if-not-counts.false,
    ) (c.breaks_then.ensures f s)
