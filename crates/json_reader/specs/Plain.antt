-- Bytes of a string that stand for themselves, several at a time, and runs of whole characters. Assumes nothing: these are definitions.
use Rattle.std.specs.Prelude.{Some, Ok}
use Rattle.std.specs.Prelude.{ℕ, zero, suc, ◌+◌, ◌-◌, ◌*◌, ◌/◌, ◌%◌, ◌≤◌, ◌<◌, ◌≡◌, Bool, true, false, List, length, get_or}
use Rattle.text.specs.Text.{byte_at}
use Rattle.text.specs.Chars.{step_at, Chars}
use Rattle.text.specs.Strings.{string_end}
use Rattle.json_reader.specs.declared.strings.Stop.{Stop}
use Rattle.json_reader.specs.declared.strings.Stepped.{Stepped}
use Rattle.json_reader.specs.declared.strings.Stepped.TheVariants.{On, Done}

-- the number whose bytes, the lowest first, are the n bytes from a place on, and zeros past the end
unfoldable pub packed_at : List ℕ → (n at : ℕ) → ℕ
packed_at t zero at = 0
packed_at t (suc n) at = get_or t at 0 + 256 * packed_at t n (at + 1)

-- a byte that stands for itself: no control, no quote, no backslash, no part of a longer character
pub record Plain (b : ℕ) : Type 0 where
  pub printable : 32 ≤ b
  pub ascii : b < 128
  pub no_quote : b ≡ 34 → ⊥
  pub no_slash : b ≡ 92 → ⊥

-- a byte that stands for itself in a part of a pointer too: neither a slash (47) nor a tilde (126)
pub record Own (b : ℕ) : Type 0 where
  pub plain : Plain b
  pub no_part : b ≡ 47 → ⊥
  pub no_tilde : b ≡ 126 → ⊥

-- what a test says of a statement: that it holds, or that it doesn't
pub record Told (A : Type 0) (r : Bool) : Type 0 where
  pub yes : r ≡ true → A
  pub no : r ≡ false → A → ⊥

-- the lowest k bytes of a number are in a class
abbrev pub Bytes : (P : ℕ → Type 0) → (k w : ℕ) → Type 0
Bytes P zero w = Prim.Unit {0}
Bytes P (suc k) w = P (w % 256) × Bytes P k (w / 256)

-- the lowest k bytes of two numbers are in a class and the same
abbrev pub AlikeBytes : (P : ℕ → Type 0) → (k v w : ℕ) → Type 0
AlikeBytes P zero v w = Prim.Unit {0}
AlikeBytes P (suc k) v w = P (v % 256) × ((v % 256 ≡ w % 256) × AlikeBytes P k (v / 256) (w / 256))

-- no mark
abbrev pub Zero : ℕ → Type 0
Zero b = b ≡ 0

-- of eight bytes those below the lowest mark are in a class
abbrev pub MarkedBytes : (P : ℕ → Type 0) → (marks w : ℕ) → Type 0
MarkedBytes P marks w = (k : ℕ) → k ≤ 8 → Bytes Zero k marks → Bytes P k w

-- the k bytes from two places of two texts on are in a class and alike; they stand in their texts, so that no place behind them wraps
pub record AlikeTo (P : ℕ → Type 0) (s : List ℕ) (a : ℕ) (t : List ℕ) (b k : ℕ) : Type 0 where
  pub alike : (i : ℕ) → i < k → (byte_at s (a + i) ≡ byte_at t (b + i)) × P (byte_at s (a + i))
  pub first : k ≤ length s - a
  pub second : k ≤ length t - b

-- and no more of them are
pub record AlikeRun (P : ℕ → Type 0) (s : List ℕ) (a : ℕ) (t : List ℕ) (b k : ℕ) : Type 0 where
  pub run : AlikeTo P s a t b k
  pub ends : byte_at s (a + k) ≡ byte_at t (b + k) → P (byte_at s (a + k)) → ⊥

-- whole characters stand from a place inside a string up to another, and no further one
pub record CharsEnd (t : List ℕ) (from to : ℕ) : Type 0 where
  pub chars : Chars t from to
  pub ends : (code len : ℕ) → step_at t to ≡ Ok (Some (code, len)) → ⊥

-- how far the whole characters from a place on stand, and how the string ends from there on
pub record Stops (t : List ℕ) (from : ℕ) (s : Stop) : Type 0 where
  pub chars : CharsEnd t from s.at
  pub token : s.token ≡ string_end t from

-- what a stretch of a string says of it: characters up to a later place, or all there are
abbrev pub Stretched : List ℕ → (from : ℕ) → Stepped → Type 0
Stretched t from (On to) = (from < length t) × ((from < to) × Chars t from to)
Stretched t from (Done s) = Stops t from s
