-- White space, literals and numbers: RFC 8259, sections 2, 3 and 6; at the end the token of any kind, strings (specs/Strings.antt) too. A token gives
-- the place after it, or 2 at the first byte that can't continue it (a string also 3).
-- docs/RULES.md, 3.2. Assumes nothing: these are definitions.
use Rattle.std.specs.Prelude.{Result, Ok, Err}
use Rattle.text.specs.declared.Fault.{Fault}
use Rattle.text.specs.declared.Fault.TheVariants.{Malformed, Forbidden}
use Rattle.std.specs.Prelude.{ℕ, ◌+◌, List, [], ◌∷◌, Bool, true, false, cond, length, ltb, eqb}
use Rattle.text.specs.Text.{byte_at, bytes}
use Rattle.laws.specs.Scan.{scan}
use Rattle.text.specs.Strings.{string_end}

-- ---- runs of bytes

-- one turn: on, while the bytes pass
abbrev pub run_body : (ℕ → Bool) → List ℕ → (ℕ → ℕ) → ℕ → ℕ
run_body is t k i = let more = k (i + 1) in cond (is (byte_at t i)) more i

-- the place after the bytes that pass a test, from i on; the test must refuse 256
unfoldable pub run_end : (ℕ → Bool) → List ℕ → ℕ → ℕ
run_end is t i = scan (run_body is t) 0 (length t) i

-- %x20 / %x09 / %x0A / %x0D
abbrev pub is_space : ℕ → Bool
is_space b = cond (eqb b 32) true (cond (eqb b 9) true (cond (eqb b 10) true (eqb b 13)))

-- ws = *( %x20 / %x09 / %x0A / %x0D ): the place after white space
abbrev pub skip : List ℕ → ℕ → ℕ
skip t i = run_end is_space t i

-- DIGIT = %x30-39
abbrev pub is_digit : ℕ → Bool
is_digit b = cond (ltb b 48) false (ltb b 58)

-- *DIGIT: the place after digits
abbrev pub digits_end : List ℕ → ℕ → ℕ
digits_end t i = run_end is_digit t i

-- ---- literals

-- the bytes of a word, from i on
unfoldable pub word_at : List ℕ → List ℕ → ℕ → Result ℕ (Fault ℕ)
word_at t [] i = Ok i
word_at t (b ∷ bs) i = let more = word_at t bs (i + 1) in cond (eqb (byte_at t i) b) more (Err (Malformed i))

-- ---- numbers

-- one part and then another
abbrev pub then_at : (ℕ → Result ℕ (Fault ℕ)) → Result ℕ (Fault ℕ) → Result ℕ (Fault ℕ)
then_at f (Ok to) = f to
then_at f (Err r) = Err r

-- 1*DIGIT
unfoldable pub digits_at : List ℕ → ℕ → Result ℕ (Fault ℕ)
digits_at t i = let all = Ok (digits_end t (i + 1)) in cond (is_digit (byte_at t i)) all (Err (Malformed i))

-- the place after a minus, if there is one
unfoldable pub minus_end : List ℕ → ℕ → ℕ
minus_end t i = cond (eqb (byte_at t i) 45) (i + 1) i

-- int = zero / ( digit1-9 *DIGIT )
unfoldable pub int_at : List ℕ → ℕ → Result ℕ (Fault ℕ)
int_at t i = let all = digits_at t i in cond (eqb (byte_at t i) 48) (Ok (i + 1)) all

-- [ frac ], where frac = decimal-point 1*DIGIT: the place itself, if there is no decimal point
unfoldable pub frac_at : List ℕ → ℕ → Result ℕ (Fault ℕ)
frac_at t i = let all = digits_at t (i + 1) in cond (eqb (byte_at t i) 46) all (Ok i)

-- the place after a sign of the exponent, if there is one
unfoldable pub sign_end : List ℕ → ℕ → ℕ
sign_end t i = cond (eqb (byte_at t i) 45) (i + 1) (cond (eqb (byte_at t i) 43) (i + 1) i)

-- [ exp ], where exp = e [ minus / plus ] 1*DIGIT: the place itself, if there is no e
unfoldable pub exp_at : List ℕ → ℕ → Result ℕ (Fault ℕ)
exp_at t i =
    let all = digits_at t (sign_end t (i + 1)) in
    cond (eqb (byte_at t i) 101) all (cond (eqb (byte_at t i) 69) all (Ok i))

-- number = [ minus ] int [ frac ] [ exp ]
unfoldable pub number_at : List ℕ → ℕ → Result ℕ (Fault ℕ)
number_at t i = then_at (exp_at t) (then_at (frac_at t) (int_at t (minus_end t i)))

-- ---- values that hold no others, by their kinds: 1 null, 2 false, 3 true, 4 number, 5 string (then 6 array, 7 object)

-- the kind that a first byte begins, or 0
unfoldable pub kind_by : ℕ → ℕ
kind_by b =
    cond (eqb b 110) 1
    (cond (eqb b 102) 2
    (cond (eqb b 116) 3
    (cond (eqb b 45) 4
    (cond (eqb b 34) 5
    (cond (eqb b 91) 6
    (cond (eqb b 123) 7
    (cond (is_digit b) 4 0)))))))

-- the token of a kind whose first byte stands at i
unfoldable pub token_at : List ℕ → ℕ → ℕ → Result ℕ (Fault ℕ)
token_at t kind i =
    let word1 = word_at t (bytes "null") i in
    let word2 = word_at t (bytes "false") i in
    let word3 = word_at t (bytes "true") i in
    let number = number_at t i in
    let string = string_end t (i + 1) in
    cond (eqb kind 1) word1 (cond (eqb kind 2) word2 (cond (eqb kind 3) word3 (cond (eqb kind 4) number string)))
