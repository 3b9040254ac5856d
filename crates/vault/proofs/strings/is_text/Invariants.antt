-- `vault::strings::is_text` meets its contract: each turn goes on behind a character. The measure is what is left of the content. Assumes nothing.
use mathlib.Core.Path.{◌≡◌}
use Prim.Native.Nat.{◌-◌}
use lib.ListN.{length}
use Rattle.packing.specs.Fields.{text_from, is_text}
use Rattle.vault.proofs.strings.is_text.Given as goal

abbrev pub invariant-loop-at : goal.invariant-loop-at
invariant-loop-at l = text_from l.content l.at ≡ is_text l.content

abbrev pub decreases-loop-at : goal.decreases-loop-at
decreases-loop-at l = length l.content - l.at
