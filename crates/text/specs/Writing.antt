-- The text of a document (docs/RULES.md, 6.6): no white space outside strings, every token as it is; and how a name that was in no text is spelled.
-- Assumes nothing: these are definitions.
use Rattle.std.specs.Prelude.{ℕ, ◌+◌, ◌*◌, ◌/◌, ◌%◌, ◌≤◌, ◌<◌, List, [], ◌∷◌, ◌++◌, Bool, true, false, cond, eqb, ltb}
use Rattle.text.specs.Spelling.{Bare, Short}
use Rattle.text.specs.Document.{Name, Doc, scalar, array, object, Members, empty, member}

-- ---- the compact text

-- between two items, not before the first
abbrev pub comma : (first : Bool) → List ℕ
comma true = []
comma false = 0x2C ∷ []

abbrev mutual
  -- the text of a document
  pub written : Doc → List ℕ
  written (scalar kind token) = token
  written (array ms) = 0x5B ∷ written_entries ms true
  written (object ms) = 0x7B ∷ written_members ms true

  -- the entries of an array from here on, and the closing bracket
  pub written_entries : Members → (first : Bool) → List ℕ
  written_entries empty first = 0x5D ∷ []
  written_entries (member n label d ms) first = comma first ++ written d ++ written_entries ms false

  -- the members of an object from here on, and the closing brace
  pub written_members : Members → (first : Bool) → List ℕ
  written_members empty first = 0x7D ∷ []
  written_members (member n label d ms) first = comma first ++ label ++ (0x3A ∷ written d) ++ written_members ms false

-- ---- a new name: escaped only where RFC 8259 demands it (quote, backslash, bytes below 32), by the short escape if there is one,
-- else by \u00 and two small hexadecimal digits

-- the hexadecimal digit of a value below 16
abbrev pub small_hex : ℕ → ℕ
small_hex n = cond (ltb n 10) (48 + n) (87 + n)

-- the letter of a byte's short escape, or 0
abbrev pub short_of : ℕ → ℕ
short_of b =
    cond (eqb b 34) 34
    (cond (eqb b 92) 92
    (cond (eqb b 8) 98
    (cond (eqb b 9) 116
    (cond (eqb b 10) 110
    (cond (eqb b 12) 102
    (cond (eqb b 13) 114 0))))))

-- a byte by \u00 and its two digits
abbrev pub coded : ℕ → List ℕ
coded b = 92 ∷ 117 ∷ 48 ∷ 48 ∷ small_hex (b / 16) ∷ small_hex (b % 16) ∷ []

-- a byte of a name, escaped or not
abbrev pub spelled_byte : ℕ → List ℕ
spelled_byte b =
    cond (eqb (short_of b) 0)
    (cond (ltb b 32) (coded b) (b ∷ []))
    (92 ∷ short_of b ∷ [])

-- the bytes of a new name, one after the other, each escaped or not
abbrev pub spelled_bytes : Name → List ℕ
spelled_bytes [] = []
spelled_bytes (b ∷ bs) = spelled_byte b ++ spelled_bytes bs

-- a new name as it is written, quotes included
abbrev pub spelled : Name → List ℕ
spelled n = 34 ∷ spelled_bytes n ++ (34 ∷ [])

-- ---- the same by rules

-- a small hexadecimal digit and its value
pub data SmallDigit : (byte value : ℕ) → Type 0 where
  figure : {v : ℕ} → v < 10 → SmallDigit (0x30 + v) v
  letter : {v : ℕ} → 10 ≤ v → v < 16 → SmallDigit (0x57 + v) v

-- a byte of a new name and how it is spelled: itself where it may stand raw (so a slash does), else the short escape,
-- else \u00 and two small digits
pub data SpelledAs : (byte : ℕ) → List ℕ → Type 0 where
  itself : {b : ℕ} → Bare b → SpelledAs b (b ∷ [])
  escaped : {l b : ℕ} → (Bare b → ⊥) → Short l b → SpelledAs b (0x5C ∷ l ∷ [])
  digits : {d e x y : ℕ} → (Bare (x * 0x10 + y) → ⊥) → ((l : ℕ) → Short l (x * 0x10 + y) → ⊥) → SmallDigit d x → SmallDigit e y
      → SpelledAs (x * 0x10 + y) (0x5C ∷ 0x75 ∷ 0x30 ∷ 0x30 ∷ d ∷ e ∷ [])

-- the bytes of a new name one after the other, each spelled so
pub data SpelledAll : Name → List ℕ → Type 0 where
  none : SpelledAll [] []
  more : {b : ℕ} {bs : Name} {w u : List ℕ} → SpelledAs b w → SpelledAll bs u → SpelledAll (b ∷ bs) (w ++ u)

-- a new name as it is written: its bytes so between quotes
pub data SpelledName : Name → (label : List ℕ) → Type 0 where
  quoted : {n : Name} {w : List ℕ} → SpelledAll n w → SpelledName n (0x22 ∷ w ++ (0x22 ∷ []))
