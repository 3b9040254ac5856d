-- `json_reader::plain::alike_from` meets its contract: each turn adds a byte that both texts have and that is in the class (`alike_more`). The measure is what is left
-- of the text behind so many bytes. Assumes nothing.
use Prim.Native.Nat.{◌-◌}
use lib.ListN.{length}
use Rattle.json_reader.specs.Plain.{AlikeTo}
use Rattle.json_reader.proofs.plain.alike_from.Given as goal

abbrev pub invariant-loop-a : goal.invariant-loop-a
invariant-loop-a g l = AlikeTo g.C.Class.holds l.text l.a l.other l.b l.k

abbrev pub decreases-loop-a : goal.decreases-loop-a
decreases-loop-a g l = length l.text - l.k
