-- What a good string is, by rules and not by a reader: its inside spells a list of code points, one character after the other
-- (RFC 8259, section 7; RFC 3629; RFC 7493, section 2.1; docs/RULES.md, 3.4). No place, no step and no refusal is named here.
-- Assumes nothing: these are definitions.
use Rattle.std.specs.Prelude.{ℕ, ◌+◌, ◌*◌, ◌%◌, ◌≤◌, ◌<◌, ◌≡◌, List, [], ◌∷◌, ◌++◌, ◌⊎◌}
use Rattle.text.specs.Utf8.{utf8}

-- a Unicode scalar value: at most U+10FFFF, and no surrogate
pub record UnicodeScalar (c : ℕ) : Type 0 where
  pub within_range : c ≤ 0x10FFFF
  pub no_surrogate : (c < 0xD800) ⊎ (0xE000 ≤ c)

-- docs/RULES.md, 3.4: noncharacters are U+FDD0 to U+FDEF and every code point whose low 16 bits are FFFE or FFFF
pub data Noncharacter : ℕ → Type 0 where
  block : {c : ℕ} → 0xFDD0 ≤ c → c ≤ 0xFDEF → Noncharacter c
  last_two : {c : ℕ} → 0xFFFE ≤ c % 0x10000 → Noncharacter c

-- a code point that a string may hold
pub record Good (c : ℕ) : Type 0 where
  pub scalar : UnicodeScalar c
  pub character : Noncharacter c → ⊥

-- what may stand raw: no control, no quote, no backslash
pub record Bare (c : ℕ) : Type 0 where
  pub no_control : 0x20 ≤ c
  pub no_quote : c ≡ 0x22 → ⊥
  pub no_backslash : c ≡ 0x5C → ⊥

-- a hexadecimal digit and its value: 0 to 9 are %x30-39; A to F are %x41-46 and a to f %x61-66, so 0x37 and 0x57 stand ten below them
pub data HexDigit : (byte value : ℕ) → Type 0 where
  decimal : {v : ℕ} → v < 10 → HexDigit (0x30 + v) v
  capital : {v : ℕ} → 10 ≤ v → v < 16 → HexDigit (0x37 + v) v
  small : {v : ℕ} → 10 ≤ v → v < 16 → HexDigit (0x57 + v) v

-- four of them, the first the highest
pub data FourDigits : List ℕ → (value : ℕ) → Type 0 where
  four : {a b c d w x y z : ℕ} → HexDigit a w → HexDigit b x → HexDigit c y → HexDigit d z
      → FourDigits (a ∷ b ∷ c ∷ d ∷ []) (w * 0x1000 + x * 0x100 + y * 0x10 + z)

-- the letter after the backslash of a short escape (" \ / b f n r t), and the character that it stands for
pub data Short : (letter code : ℕ) → Type 0 where
  quote : Short 0x22 0x22
  backslash : Short 0x5C 0x5C
  slash : Short 0x2F 0x2F
  backspace : Short 0x62 0x08
  form_feed : Short 0x66 0x0C
  line_feed : Short 0x6E 0x0A
  carriage_return : Short 0x72 0x0D
  tab : Short 0x74 0x09

-- a character and the bytes that spell it: itself in UTF-8, a short escape, \u and four digits, or a surrogate pair of two such escapes
pub data Spell : List ℕ → (code : ℕ) → Type 0 where
  raw : {c : ℕ} → Good c → Bare c → Spell (utf8 c) c
  short : {b c : ℕ} → Short b c → Spell (0x5C ∷ b ∷ []) c
  unit : {w : List ℕ} {c : ℕ} → Good c → FourDigits w c → Spell (0x5C ∷ 0x75 ∷ w) c
  pair : {v w : List ℕ} {h l : ℕ} → FourDigits v (0xD800 + h) → h < 0x400 → FourDigits w (0xDC00 + l) → l < 0x400
      → Good (0x10000 + h * 0x400 + l) → Spell (0x5C ∷ 0x75 ∷ v ++ 0x5C ∷ 0x75 ∷ w) (0x10000 + h * 0x400 + l)

-- a list of characters and the bytes that spell it
pub data Spells : List ℕ → List ℕ → Type 0 where
  none : Spells [] []
  more : {w u : List ℕ} {c : ℕ} {cs : List ℕ} → Spell w c → Spells u cs → Spells (w ++ u) (c ∷ cs)

-- the UTF-8 of a list of code points
unfoldable pub utf8s : List ℕ → List ℕ
utf8s [] = []
utf8s (c ∷ cs) = utf8 c ++ utf8s cs
