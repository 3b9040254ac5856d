-- Where 51 begins, on two texts of 65,536 bytes. Their lengths are handed in by equations, so that nothing computes on lists of that length.
-- proofs/Edge.antt proves it. Assumes nothing: these are definitions.
use Rattle.std.specs.Prelude.{ℕ, ◌≤◌, ◌≡◌, List, [], ◌∷◌, ◌++◌, replicate}
use Rattle.text.specs.Limits.{base}
use Rattle.text.specs.Sheet.{numbers}
use Rattle.packing.specs.Services.{vaulted}

-- a string of n letters, as it is written
abbrev pub letters : ℕ → List ℕ
letters n = 34 ∷ replicate n 97 ++ (34 ∷ [])

-- what is written, as the one entry of an array
abbrev pub in_brackets : List ℕ → List ℕ
in_brackets w = 91 ∷ w ++ (93 ∷ [])

pub record EdgeOfWidth : Type 0 where
  -- a string of 65,532 letters in an array is packed, to 65,538 bytes: the array's content has 65,535
  pub packs : (n : ℕ) → n ≡ 65532 → (words room : ℕ) → 16 ≤ words → 65538 ≤ room
      → ((vaulted base).pack (in_brackets (letters n)) words room).answer ≡ numbers 0 2 65538
  -- one of 65,530 letters in two arrays is 51, whatever room there is: it and the inner array fit, the outer one's content has 65,536 bytes
  pub refuses : (n : ℕ) → n ≡ 65530 → (words room : ℕ) → 24 ≤ words
      → ((vaulted base).pack (in_brackets (in_brackets (letters n))) words room).answer ≡ numbers 51 0 0
