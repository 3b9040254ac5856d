-- `card::rules::any_of` meets its contract: a search through the rule's words. The measure is the words left. Assumes nothing.
use mathlib.Core.Path.{◌≡◌}
use Prim.Native.Nat.{◌-◌}
use lib.ListN.{drop}
use Rattle.text.specs.Tree.{Forest}
use Rattle.text.specs.Doc.{members_of}
use Rattle.card.specs.Catalog.{MembersAt, rule_at, rule_words, each}
use Rattle.card.specs.RuleTable.{any_counted}
use Rattle.card.proofs.rules.any_of.Given as goal

abbrev pub invariant-loop-j : goal.invariant-loop-j
invariant-loop-j l =
    (f : Forest) → MembersAt l.on.table.now l.object f
    → any_counted l.object.of (members_of l.on.text.now f) (drop l.j (rule_words (rule_at l.i))) ≡ any_counted l.object.of (members_of l.on.text.now f) (drop l.from (rule_words (rule_at l.i)))

abbrev pub decreases-loop-j : goal.decreases-loop-j
decreases-loop-j l = each - l.j
