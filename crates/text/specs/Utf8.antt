-- UTF-8 (RFC 3629): the bytes of a code point, by the shapes of the RFC's table and as they are computed; up to U+10FFFF what is computed is what the
-- shapes say: `utf8_table` (proofs/Spelling/Codes.antt).
-- docs/RULES.md, 3.4. Assumes nothing: these are definitions.
use Rattle.std.specs.Prelude.{ℕ, ◌+◌, ◌*◌, ◌/◌, ◌%◌, ◌≤◌, ◌<◌, List, [], ◌∷◌, cond, ltb, eqb}

-- The shapes of the table (section 3): a code point and its bytes, each with the bits that it carries; no sequence is longer than it must be. That
-- surrogates and numbers above U+10FFFF are no characters is asked apart (`UnicodeScalar`, specs/Spelling.antt).
pub data Utf8 : (code : ℕ) → List ℕ → Type 0 where
  one_byte : {c : ℕ} → c < 0x80 → Utf8 c (c ∷ [])
  two_bytes : {x y : ℕ} → x < 0x20 → y < 0x40 → 0x80 ≤ x * 0x40 + y → Utf8 (x * 0x40 + y) ((0xC0 + x) ∷ (0x80 + y) ∷ [])
  three_bytes : {x y z : ℕ} → x < 0x10 → y < 0x40 → z < 0x40 → 0x800 ≤ x * 0x1000 + y * 0x40 + z
      → Utf8 (x * 0x1000 + y * 0x40 + z) ((0xE0 + x) ∷ (0x80 + y) ∷ (0x80 + z) ∷ [])
  four_bytes : {x y z w : ℕ} → x < 0x8 → y < 0x40 → z < 0x40 → w < 0x40 → 0x10000 ≤ x * 0x40000 + y * 0x1000 + z * 0x40 + w
      → Utf8 (x * 0x40000 + y * 0x1000 + z * 0x40 + w) ((0xF0 + x) ∷ (0x80 + y) ∷ (0x80 + z) ∷ (0x80 + w) ∷ [])

-- the last `left` continuation bytes of a code point; there are at most three
unfoldable pub conts : ℕ → ℕ → List ℕ
conts left code =
    cond (eqb left 0) []
    (cond (eqb left 1) ((0x80 + code % 0x40) ∷ [])
    (cond (eqb left 2) ((0x80 + code / 0x40 % 0x40) ∷ (0x80 + code % 0x40) ∷ [])
    ((0x80 + code / 0x1000 % 0x40) ∷ (0x80 + code / 0x40 % 0x40) ∷ (0x80 + code % 0x40) ∷ [])))

-- the bytes of a code point: its highest bits in the first byte, six in each of the others
unfoldable pub utf8 : ℕ → List ℕ
utf8 code =
    cond (ltb code 0x80) (code ∷ [])
    (cond (ltb code 0x800) ((0xC0 + code / 0x40 % 0x20) ∷ conts 1 code)
    (cond (ltb code 0x10000) ((0xE0 + code / 0x1000 % 0x10) ∷ conts 2 code)
    ((0xF0 + code / 0x40000 % 0x8) ∷ conts 3 code)))
