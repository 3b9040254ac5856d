-- `card::schema::is_lacking` meets its contract: a search through the object type's properties. The measure is those left. Assumes nothing.
use Prim.Native.Nat.{◌-◌}
use mathlib.Core.Bool.{true, false}
use Rattle.text.specs.Tree.{Forest}
use Rattle.text.specs.Doc.{members_of}
use Rattle.contact.specs.Schema.{properties}
use Rattle.card.specs.Catalog.{MembersAt, lines, no_line, is_missing}
use Rattle.card.proofs.Known.Search.{Left}
use Rattle.card.proofs.schema.is_lacking.Given as goal

abbrev pub invariant-loop-i : goal.invariant-loop-i
invariant-loop-i l =
    (f : Forest) → MembersAt l.on.table.now l.object f → Left (is_missing (members_of l.on.text.now f)) (λ _. true) false lines (properties l.object.of) no_line l.initial.i l.i-end l.i

abbrev pub decreases-loop-i : goal.decreases-loop-i
decreases-loop-i l = l.i-end - l.i
