-- `pointers::parts::own_end` meets its contract: each turn passes one byte more. The measure is what is left of the key. Assumes nothing.
use Prim.Native.Nat.{ℕ, ◌-◌, ◌≤◌, ◌<◌}
use lib.ListN.{length}
use Rattle.text.specs.Text.{byte_at}
use Rattle.json_reader.specs.Plain.{Own}
use Rattle.pointers.proofs.parts.own_end.Given as goal

abbrev pub invariant-loop-at : goal.invariant-loop-at
invariant-loop-at l = (l.from ≤ l.at) × ((i : ℕ) → l.from ≤ i → i < l.at → Own (byte_at l.key i))

abbrev pub decreases-loop-at : goal.decreases-loop-at
decreases-loop-at l = length l.key - l.at
