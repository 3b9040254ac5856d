-- `json_reader::tokens::literal` meets its contract: the word's bytes from `i` on, from `at` on, are what all of them are from `from` on. Assumes nothing.
use mathlib.Core.Path.{◌≡◌}
use Prim.Native.Nat.{◌-◌}
use lib.ListN.{length, drop}
use Rattle.text.specs.Tokens.{word_at}
use Rattle.json_reader.proofs.tokens.literal.Given as goal

abbrev pub invariant-loop-from : goal.invariant-loop-from
invariant-loop-from l = word_at l.text (drop l.i l.lit) l.at ≡ word_at l.text l.lit l.from

abbrev pub decreases-loop-from : goal.decreases-loop-from
decreases-loop-from l = length l.lit - l.i
