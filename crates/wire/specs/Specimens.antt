-- Specimens of 02, Req 10, bytes one at a time, as one statement over a list: after how many bytes there is an answer (one more than there are: at the
-- end), and which. Assumes nothing.
use Rattle.std.specs.Prelude.{Result, Ok, Err}
use Rattle.text.specs.declared.Refusal.{Refusal}
use Rattle.std.specs.Prelude.{ℕ, ◌+◌, List, [], ◌∷◌, false, replicate}
use Rattle.text.specs.Limits.{Limits, base}
use Rattle.text.specs.Text.{bytes}
use Rattle.text.specs.declared.Refusal.TheVariants.{TooLong, Grammar, Character, Deep, Many}
use Rattle.wire.specs.Machine.{State, going, over, start, feed, taken}

-- a text, after how many bytes the answer comes, and the answer; 99 and nothing for none, which does not occur
pub record Case : Type 0 where
  pub limits : Limits
  pub text : List ℕ
  pub after : ℕ
  pub answer : Result ℕ Refusal

-- the answer of a state, if there is one, and else what is found later
abbrev pub earliest : Limits → List ℕ → (after : ℕ) → State → Case → Case
earliest L t k (over a) later = record { limits = L; text = t; after = k; answer = a }
earliest L t k (going i n os spot) later = later

-- go on until there is an answer; then the end
unfoldable pub told : Limits → (text : List ℕ) → (after : ℕ) → State → List ℕ → Case
told L t k s [] =
    let none : Case = record { limits = L; text = t; after = 99; answer = Ok 0 } in
    earliest L t k s (earliest L t (k + 1) (feed L s 256) none)
told L t k s (b ∷ bs) = let later = told L t (k + 1) (taken L s b) bs in earliest L t k s later

unfoldable pub worked : Case → Case
worked c = told c.limits c.text 0 start c.text

abbrev at : List ℕ → ℕ → Result ℕ Refusal → Case
at t k a = record { limits = base; text = t; after = k; answer = a }

-- small limits: 9 bytes, 2 open at once, 3 values
abbrev tight : Limits
tight = record { bytes = 9; depth = 2; values = 3; unique = false }

abbrev under : List ℕ → ℕ → Result ℕ Refusal → Case
under t k a = record { limits = tight; text = t; after = k; answer = a }

abbrev pub cases : List Case
cases =
    at (bytes "") 1 (Err (Grammar 0))
    ∷ at (bytes "tru") 4 (Err (Grammar 3))
    ∷ at (bytes "trx") 3 (Err (Grammar 2))
    ∷ at (bytes "\"\\uD800\"") 8 (Err (Character 1))
    ∷ at (bytes "\"\\uD800\\n") 9 (Err (Character 1))
    ∷ at (bytes "\"\\uD800\\u0") 10 (Err (Character 1))
    ∷ at (bytes "\"\\uD800\\uD8") 11 (Err (Character 1))
    ∷ at (bytes "\"\\uD800\\uDCz") 12 (Err (Character 1))
    ∷ at (bytes "\"\\uD800\\uDC00\"") 15 (Ok 1)
    ∷ at (bytes "\"\\uDC0z") 7 (Err (Grammar 6))
    ∷ at (bytes "\"\\uDC00") 7 (Err (Character 1))
    ∷ at (34 ∷ 0xED ∷ 0xA0 ∷ []) 3 (Err (Character 1))
    ∷ at (34 ∷ 0xEF ∷ 0xBF ∷ 0xBE ∷ []) 4 (Err (Character 1))
    ∷ at (34 ∷ 0xC3 ∷ 34 ∷ []) 3 (Err (Character 1))
    ∷ at (34 ∷ 0xC3 ∷ []) 3 (Err (Character 1))
    ∷ at (34 ∷ 0xE0 ∷ 0x9F ∷ []) 3 (Err (Character 1))
    ∷ at (34 ∷ 0xF4 ∷ 0x90 ∷ []) 3 (Err (Character 1))
    ∷ at (34 ∷ 0xF4 ∷ 0x8F ∷ 0xBF ∷ 0xBF ∷ []) 5 (Err (Character 1))
    ∷ at (34 ∷ 0xF4 ∷ 0x8F ∷ 0xBF ∷ 0xBD ∷ 34 ∷ []) 7 (Ok 1)
    ∷ at (34 ∷ 0xF0 ∷ 0x9F ∷ 0x98 ∷ []) 5 (Err (Character 1))
    ∷ at (34 ∷ 0xC0 ∷ []) 2 (Err (Character 1))
    ∷ at (34 ∷ 0xF5 ∷ []) 2 (Err (Character 1))
    ∷ at (34 ∷ 0x80 ∷ []) 2 (Err (Character 1))
    ∷ at (0xEF ∷ []) 1 (Err (Grammar 0))
    ∷ at (bytes "\"\\uFDD") 7 (Err (Grammar 6))
    ∷ at (bytes "\"\\uFDD0") 7 (Err (Character 1))
    ∷ at (bytes "\"\\uD83F\\uDFFD\"") 15 (Ok 1)
    ∷ at (bytes "\"\\uD83F\\uDFFE") 13 (Err (Character 1))
    ∷ at (bytes "\"\\uD800") 8 (Err (Character 1))
    ∷ at (bytes "\"\\uD800\\uDC0") 13 (Err (Character 1))
    ∷ at (bytes "\"\\uD80") 7 (Err (Grammar 6))
    ∷ at (bytes "{\"a\":1,\"a\":2}") 14 (Ok 3)
    ∷ at (bytes "{\"a\":{\"a\":[1,\"x\"]}}") 20 (Ok 5)
    ∷ at (bytes " [ ] ") 6 (Ok 1)
    ∷ at (bytes "[1,2") 5 (Err (Grammar 4))
    ∷ at (bytes "{\"a\" 1") 6 (Err (Grammar 5))
    ∷ at (bytes "{,") 2 (Err (Grammar 1))
    ∷ at (bytes "[1,]") 4 (Err (Grammar 3))
    ∷ at (bytes "01") 2 (Err (Grammar 1))
    ∷ at (bytes "1 2") 3 (Err (Grammar 2))
    ∷ at (bytes "-") 2 (Err (Grammar 1))
    ∷ at (bytes "1.") 3 (Err (Grammar 2))
    ∷ at (bytes "1e+") 4 (Err (Grammar 3))
    ∷ at (bytes "-1.5e+10") 9 (Ok 1)
    ∷ at (34 ∷ 97 ∷ 1 ∷ []) 3 (Err (Grammar 2))
    ∷ at (replicate 65 91) 65 (Err (Deep 64))
    ∷ under (bytes "[[[") 3 (Err (Deep 2))
    ∷ under (bytes "[1,2,3") 6 (Err (Many 5))
    ∷ under (bytes "[1,2,x") 6 (Err (Grammar 5))
    ∷ under (bytes "[[1,[") 5 (Err (Deep 4))
    ∷ under (bytes "[[1],[") 6 (Err (Many 5))
    ∷ under (bytes "         x") 10 (Err TooLong)
    ∷ under (bytes "        x ") 9 (Err (Grammar 8))
    ∷ under (bytes "       1 ") 10 (Ok 1)
    ∷ []
