-- `card::catalog::rules_of` meets its contract: its rules stand together. Assumes nothing.
use mathlib.Core.Path.{refl}
use native.Mathlib.Omega.{arith}
use Rattle.card.specs.Catalog.{rule_starts, all_rules, no_rule}
use Rattle.card.proofs.Known.OwnParts.{span_part}
use Rattle.card.proofs.catalog.rules_of.Goals as goal

pub returns : goal.returns
unfolding all_rules
returns c =
    let a = c.args in
    rw c.span_at.ensures (span_part (λ r. r.rules) refl no_rule a.numbers.now rule_starts c.requires.rule_start_is a.o)

pub span_at-requires : goal.span_at-requires
span_at-requires c = omega (arith, c.requires.long)
