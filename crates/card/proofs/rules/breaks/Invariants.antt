-- `card::rules::breaks` meets its contract: a search through the object type's rules. The measure is those left. Assumes nothing.
use Prim.Native.Nat.{◌-◌}
use mathlib.Core.Bool.{true, false}
use Rattle.text.specs.Tree.{Forest}
use Rattle.text.specs.Doc.{members_of}
use Rattle.contact.specs.Schema.{rules_of}
use Rattle.contact.specs.Rules.{breaks_one}
use Rattle.card.specs.Catalog.{MembersAt, all_rules, no_rule}
use Rattle.card.proofs.Known.Search.{Left}
use Rattle.card.proofs.rules.breaks.Given as goal

abbrev pub invariant-loop-i : goal.invariant-loop-i
invariant-loop-i l =
    (f : Forest) → MembersAt l.on.table.now l.object f → Left (breaks_one l.object.of (members_of l.on.text.now f)) (λ _. true) false all_rules (rules_of l.object.of) no_rule l.initial.i l.i-end l.i

abbrev pub decreases-loop-i : goal.decreases-loop-i
decreases-loop-i l = l.i-end - l.i
