-- `json_reader::members::put_name` meets its contract: where there is no room, the store has no words. Assumes nothing.
use mathlib.Core.List.{List}
use Prim.Native.Nat.{ℕ, ◌+◌, ◌≤◌, ◌<◌}
use native.Mathlib.Omega.{arith}
use native.Mathlib.Decide.{dec_lt}
use lib.ListN.{length, set}
use borrow.Author.Tests.{lt-ltb, le-ltb}
use Rattle.json_reader.specs.Readers.{RoomFor, Put}
use Rattle.json_reader.proofs.Store.{added_none, added_one}
use Rattle.json_reader.proofs.members.put_name.Goals as goal

put : (names : List ℕ) (end at : ℕ) → end < length names → Put names end at (set names end at) (end + 1)
put names end at h = record { one = omega arith; added = rw (lt-ltb 0 (length names) (omega arith)) (added_one end names at h) }

none_put : (names : List ℕ) (end at : ℕ) → RoomFor names end → length names ≤ end → Put names end at names end
none_put names end at r h =
    let none : length names ≤ 0 = elim (dec_lt 0 (length names)) [
      | yes l ↦ (let m = r.more l in absurd (omega arith))
      | no l ↦ omega arith
    ] in
    record { one = omega arith; added = rw (le-ltb 0 (length names) none) (added_none end names r.upto) }

pub returns-then-end-names : goal.returns-then-end-names
returns-then-end-names c = let a = c.args in put a.names.now a.end a.at c.if-end-names.true

pub returns : goal.returns
returns c = let s = c in let a = s.args in none_put a.names.now a.end a.at s.requires.1 c.if-end-names.false
