-- What a reading in pieces is measured by (02, Req 10): whole reading without nos. 1, 4 and 7, and when one refusal is certain whatever follows.
-- Assumes nothing: these are definitions.
use Rattle.std.specs.Prelude.{Result, Ok, Err}
use Rattle.std.specs.Prelude.{ℕ, ◌<◌, ◌≤◌, ◌≡◌, false, List, ◌++◌, length, take}
use Rattle.text.specs.Limits.{Limits}
use Rattle.text.specs.Text.{Bytes}
use Rattle.text.specs.Tree.{size}
use Rattle.text.specs.Reader.{Read, good, bad}
use Rattle.text.specs.Whole.{read_of}
use Rattle.text.specs.declared.Refusal.{Refusal}

-- no. 1 aside: the text may have as many bytes as it has; no. 4 aside: names aren't compared; no. 7 isn't asked by `read_of`
abbrev pub lenient : Limits → List ℕ → Limits
lenient L t = record { bytes = length t; depth = L.depth; values = L.values; unique = false }

-- the number of values, or the refusal
unfoldable pub reading_of : Read → Result ℕ Refusal
reading_of (good f to) = Ok (size f)
reading_of (bad r) = Err r

-- whole reading without 1, 4 and 7
unfoldable pub measure : Limits → List ℕ → Result ℕ Refusal
measure L t = reading_of (read_of (lenient L t) t)

-- the refusal r is certain after the bytes p: whatever bytes follow, whole reading gives it, number and place
abbrev pub Certain : Limits → List ℕ → Refusal → Type 0
Certain L p r = (q : List ℕ) → Bytes q → measure L (p ++ q) ≡ Err r

-- the first k bytes of p are the fewest after which a refusal is certain, and r is that refusal
pub record Shortest (L : Limits) (p : List ℕ) (k : ℕ) (r : Refusal) : Type 0 where
  pub within : k ≤ length p
  pub certain : Certain L (take k p) r
  pub not_before : (j : ℕ) → j < k → (s : Refusal) → Certain L (take j p) s → ⊥
