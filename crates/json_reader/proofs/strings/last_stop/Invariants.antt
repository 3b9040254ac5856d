-- `json_reader::strings::last_stop` meets its contract: each turn goes on over plain bytes and then over what is not plain. The measure is what is left of the text. Assumes nothing.
use Prim.Native.Nat.{◌-◌}
use lib.ListN.{length}
use Rattle.text.specs.Chars.{Chars}
use Rattle.json_reader.proofs.strings.last_stop.Given as goal

abbrev pub invariant-loop-to : goal.invariant-loop-to
invariant-loop-to l = Chars l.text l.from l.at

abbrev pub decreases-loop-to : goal.decreases-loop-to
decreases-loop-to l = length l.text - l.at
