-- The ways in which ABNF (RFC 5234) puts rules together, as languages: which lists of bytes a rule describes (docs/RULES.md, 3.2).
-- Assumes nothing: these are definitions.
use Rattle.std.specs.Prelude.{ℕ, ◌≤◌, ◌≡◌, List, [], ◌∷◌, ◌++◌}

-- a byte of which something holds
pub data Byte (P : ℕ → Type 0) : List ℕ → Type 0 where
  byte : {x : ℕ} → P x → Byte P (x ∷ [])

-- %x30-39: from one byte to another
pub record Between (low high x : ℕ) : Type 0 where
  pub from : low ≤ x
  pub up_to : x ≤ high

-- %x2D: one byte
abbrev pub Just : ℕ → List ℕ → Type 0
Just c = Byte (λ x. x ≡ c)

-- %x6E.75.6C.6C: these bytes, one after the other
pub data Exactly (v : List ℕ) : List ℕ → Type 0 where
  exactly : Exactly v v

-- one rule and then another
pub data Seq (L M : List ℕ → Type 0) : List ℕ → Type 0 where
  seq : {u v : List ℕ} → L u → M v → Seq L M (u ++ v)

-- one rule / another
pub data Or (L M : List ℕ → Type 0) : List ℕ → Type 0 where
  this : {w : List ℕ} → L w → Or L M w
  that : {w : List ℕ} → M w → Or L M w

-- [ rule ]: once or not at all
pub data Opt (L : List ℕ → Type 0) : List ℕ → Type 0 where
  none : Opt L []
  some : {w : List ℕ} → L w → Opt L w

-- *rule: any number of times
pub data Star (L : List ℕ → Type 0) : List ℕ → Type 0 where
  none : Star L []
  more : {u v : List ℕ} → L u → Star L v → Star L (u ++ v)
