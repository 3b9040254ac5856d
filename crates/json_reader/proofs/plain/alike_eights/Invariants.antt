-- `json_reader::plain::alike_eights` meets its contract: each turn adds the bytes that were told alike and in the class (`alike_eight`). The measure is what is left
-- of the text behind so many bytes. Assumes nothing.
use Prim.Native.Nat.{◌-◌}
use lib.ListN.{length}
use Rattle.json_reader.specs.Plain.{AlikeTo}
use Rattle.json_reader.proofs.plain.alike_eights.Given as goal

abbrev pub invariant-loop-k : goal.invariant-loop-k
invariant-loop-k g l = AlikeTo g.C.Eights.holds l.text l.a l.other l.b l.k

abbrev pub decreases-loop-k : goal.decreases-loop-k
decreases-loop-k g l = length l.text - l.k
