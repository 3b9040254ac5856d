-- `json_reader::strings::steps_end` meets its contract: each turn goes on over a character, and where there is none the string ends as the step says (`end_step`). The measure is what is left of the text. Assumes nothing.
use Prim.Native.Nat.{◌-◌}
use lib.ListN.{length}
use Rattle.text.specs.Chars.{Chars}
use Rattle.json_reader.proofs.strings.steps_end.Given as goal

abbrev pub invariant-loop-len : goal.invariant-loop-len
invariant-loop-len l = Chars l.text l.from l.at

abbrev pub decreases-loop-len : goal.decreases-loop-len
decreases-loop-len l = length l.text - l.at
