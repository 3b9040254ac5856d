-- `vault::strings::put_string` meets its contract: a run that spells itself, and then a byte that may not, in turn. Assumes nothing.
use mathlib.Core.List.{List, [], ◌∷◌, ◌++◌}
use Prim.Native.Nat.{ℕ, ◌-◌}
use lib.ListN.{length, drop}
use Rattle.text.specs.Writing.{spelled_bytes}
use Rattle.output.proofs.Bytes.{BytesLeft}
use Rattle.vault.proofs.strings.put_string.Given as goal

-- what is left to write from a place on
abbrev pub left : List ℕ → ℕ → List ℕ
left w i = spelled_bytes (drop i w) ++ (34 ∷ [])

abbrev pub invariant-loop-i : goal.invariant-loop-i
invariant-loop-i l = BytesLeft l.initial.out l.initial.p (left l.content 0) l.out l.p (left l.content l.i)

abbrev pub decreases-loop-i : goal.decreases-loop-i
decreases-loop-i l = length l.content - l.i
