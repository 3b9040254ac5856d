-- What a string's refused place is, by rules and not by a reader: the beginning of a character that a byte can't continue (2), and what stands
-- where a character should and is none (3). No step is named here. docs/RULES.md, 3.3 and 3.4. Assumes nothing: these are definitions.
use Rattle.std.specs.Prelude.{ℕ, ◌≤◌, ◌<◌, ◌≡◌, List, [], ◌∷◌, ◌++◌, length}
use Rattle.text.specs.Spelling.{HexDigit, FourDigits, Short, Spell}

-- some hexadecimal digits
pub data HexDigits : List ℕ → Type 0 where
  none : HexDigits []
  more : {b v : ℕ} {w : List ℕ} → HexDigit b v → HexDigits w → HexDigits (b ∷ w)

-- 2: the first byte that can't continue, or the text's length where it ends early. Inside a string: the beginning of a character, and the byte after
-- it, 256 at the end of the text, with which RFC 8259's grammar doesn't go on
pub data Cut : (begun : List ℕ) (next : ℕ) → Type 0 where
  -- where a character must stand: a control, or the end
  control : {b : ℕ} → b < 0x20 → Cut [] b
  ended : {b : ℕ} → 256 ≤ b → Cut [] b
  -- after a backslash: no letter of an escape
  letter : {b : ℕ} → (b ≡ 0x75 → ⊥) → ((c : ℕ) → Short b c → ⊥) → Cut (0x5C ∷ []) b
  -- after \u and fewer than four hexadecimal digits: no such digit
  digit : {w : List ℕ} {b : ℕ} → HexDigits w → length w < 4 → ((v : ℕ) → HexDigit b v → ⊥) → Cut (0x5C ∷ 0x75 ∷ w) b

-- bytes that begin as only a character does: with a byte of 128 or more, or with a complete \u escape
pub data Aims : List ℕ → Type 0 where
  high : {b : ℕ} {r : List ℕ} → 0x80 ≤ b → b < 0x100 → Aims (b ∷ r)
  escape : {w : List ℕ} {u : ℕ} → FourDigits w u → (r : List ℕ) → Aims (0x5C ∷ 0x75 ∷ w ++ r)

-- 3: ill-formed UTF-8, a lone surrogate or a noncharacter; the place is the first byte of that sequence or escape.
-- So bytes that begin so, and of which no beginning spells a character
pub record Ill (bytes : List ℕ) : Type 0 where
  pub aims : Aims bytes
  pub misses : (w r : List ℕ) (c : ℕ) → bytes ≡ w ++ r → Spell w c → ⊥
