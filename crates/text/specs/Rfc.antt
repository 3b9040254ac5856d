-- The grammar with white space where RFC 8259, section 2, has it: each of the six structural characters takes white space before and after it.
-- Its texts are those of specs/Grammar.antt (proofs/Grammar/Arrangement.antt).
--     begin-array = ws %x5B ws, and so begin-object, end-array, end-object, name-separator, value-separator
--     array  = begin-array [ value *( value-separator value ) ] end-array
--     object = begin-object [ member *( value-separator member ) ] end-object
--     member = string name-separator value
-- docs/RULES.md, 3.2. Assumes nothing: these are definitions.
use Rattle.std.specs.Prelude.{ℕ, List, [], ◌∷◌, ◌++◌}
use Rattle.text.specs.Forest.{Bracket, square, curly}
use Rattle.text.specs.Grammar.{Ws, JsonString, Simple, IsSimple, opening, Phrase, value, item, items, closing}

-- a structural character c with the white space a before it and b after it, and then w
abbrev pub mark : ℕ → List ℕ → List ℕ → List ℕ → List ℕ
mark c a b w = a ++ c ∷ (b ++ w)

-- the bytes are such a part
pub data Rfc : Phrase → List ℕ → Type 0 where
  simple : {w : List ℕ} (k : Simple) → IsSimple k w → Rfc value w
  empty : {a b c d : List ℕ} (k : Bracket) → Ws a → Ws b → Ws c → Ws d → Rfc value (mark (opening k) a b (mark (closing k) c d []))
  full : {a b c d w : List ℕ} (k : Bracket) → Ws a → Ws b → Rfc (items k) w → Ws c → Ws d → Rfc value (mark (opening k) a b (w ++ mark (closing k) c d []))
  element : {w : List ℕ} → Rfc value w → Rfc (item square) w
  member : {m a b w : List ℕ} → JsonString m → Ws a → Ws b → Rfc value w → Rfc (item curly) (m ++ mark 0x3A a b w)
  one : {w : List ℕ} {k : Bracket} → Rfc (item k) w → Rfc (items k) w
  comma : {v a b w : List ℕ} {k : Bracket} → Rfc (item k) v → Ws a → Ws b → Rfc (items k) w → Rfc (items k) (v ++ mark 0x2C a b w)

-- JSON-text = ws value ws
pub data RfcText : List ℕ → Type 0 where
  json_text : {s w r : List ℕ} → Ws s → Rfc value w → Ws r → RfcText (s ++ (w ++ r))
