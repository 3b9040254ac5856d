-- `card::schema::type_in` meets its contract: a search through the object type's properties. The measure is those left. Assumes nothing.
use Prim.Native.Nat.{◌-◌}
use Rattle.text.specs.Strings.{name_of}
use Rattle.contact.specs.Schema.{any, properties}
use Rattle.card.specs.Catalog.{lines, no_line}
use Rattle.card.proofs.Known.Search.{Left, named}
use Rattle.card.proofs.schema.type_in.Given as goal

abbrev pub invariant-loop-i : goal.invariant-loop-i
invariant-loop-i l = Left (named (name_of l.on.text.now l.s l.e)) (λ k. k.type) any lines (properties l.o) no_line l.initial.i l.i-end l.i

abbrev pub decreases-loop-i : goal.decreases-loop-i
decreases-loop-i l = l.i-end - l.i
