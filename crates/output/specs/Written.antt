-- What functions that write to a lent output promise. Assumes nothing: these are definitions.
use Rattle.std.specs.Prelude.{ℕ, ◌+◌, ◌≤◌, ◌<◌, ◌≡◌, List, length, Option, Some, None, cond, eqb}
use Rattle.std.proofs.lemmas.List.Edits.{sets}
use Rattle.text.specs.Writing.{short_of}

-- where counting stops: no lent output has so many bytes
abbrev pub full : ℕ
full = 9223372036854775808

-- the place r is the n-th, or, where n is past all that is counted, one that is too
pub record CountedPlace (n r : ℕ) : Type 0 where
  pub exact : n < full → r ≡ n
  pub past : full ≤ n → full ≤ r

-- the bytes were written from the place `at` on, as far as there is room, and r is the place after them, room or not
pub record Wrote (old : List ℕ) (at : ℕ) (bytes new : List ℕ) (r : ℕ) : Type 0 where
  pub to : CountedPlace (at + length bytes) r
  pub out : new ≡ sets old at bytes
  pub fits : length old < full

-- the letter of a byte's short escape, if it has one
abbrev pub short_escape : ℕ → Option ℕ
short_escape b = cond (eqb (short_of b) 0) None (Some (short_of b))
