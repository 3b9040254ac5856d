-- Texts as lists of bytes: what stands at a place, and quoted texts. Assumes nothing: these are definitions.
use Rattle.std.specs.Prelude.{ℕ, ◌<◌, List, [], ◌∷◌, get_or}
use Prim.Native.Char.{Char, code}
use Prim.Native.String.{String}
use Prim.Native.String as S
use Rattle.laws.specs.Each.{Each}

-- each of them is a byte
abbrev pub Bytes : List ℕ → Type 0
Bytes q = Each (λ b. b < 256) q

-- the byte at a place, and 256 at and past the end: so the end of a text is one more byte that can't continue
abbrev pub byte_at : List ℕ → ℕ → ℕ
byte_at t i = get_or t i 256

-- the bytes of a quoted text of ASCII characters, so that spellings and specimens can be read
abbrev pub bytes : String → List ℕ
bytes S.[] = []
bytes (S.◌∷◌ c s) = code c ∷ bytes s

-- the same by rules: a quoted text and the codes of its characters, one after the other
pub data Codes : String → List ℕ → Type 0 where
  none : Codes S.[] []
  more : {c : Char} {s : String} {bs : List ℕ} → Codes s bs → Codes (S.◌∷◌ c s) (code c ∷ bs)
