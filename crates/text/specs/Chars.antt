-- What stands at a place inside a string: RFC 8259, section 7, and the refusals 2 and 3 (docs/RULES.md, 3.3 and 3.4).
-- Every test is on one number, the byte at a place or 256 at and past the end.
-- Assumes nothing: these are definitions.
use Rattle.std.specs.Prelude.{Option, Some, None, Result, Ok, Err}
use Rattle.text.specs.declared.Fault.{Fault}
use Rattle.text.specs.declared.Fault.TheVariants.{Malformed, Forbidden}
use Rattle.std.specs.Prelude.{ℕ, ◌+◌, ◌-◌, ◌*◌, ◌%◌, ◌≡◌, List, cond, ltb, eqb}
use Rattle.text.specs.Text.{byte_at}

-- ---- four hexadecimal digits (8259: %x75 4HEXDIG)

-- the value of a hexadecimal digit, or 16
unfoldable pub digit_of : ℕ → ℕ
digit_of b =
    cond (ltb b 48) 16
    (cond (ltb b 58) (b - 48)
    (cond (ltb b 65) 16
    (cond (ltb b 71) (b - 55)
    (cond (ltb b 97) 16
    (cond (ltb b 103) (b - 87) 16)))))

-- the value of four digits that stand from i on, or the first place that has none
unfoldable pub hex4_of : ℕ → ℕ → ℕ → ℕ → ℕ → Result ℕ ℕ
hex4_of i a b c d =
    cond (eqb a 16) (Err i)
    (cond (eqb b 16) (Err (i + 1))
    (cond (eqb c 16) (Err (i + 2))
    (cond (eqb d 16) (Err (i + 3)) (Ok (a % 16 * 4096 + b % 16 * 256 + c % 16 * 16 + d % 16)))))

-- the value of the hexadecimal digit at a place, or 16
unfoldable pub digit_at : List ℕ → ℕ → ℕ
digit_at t i = digit_of (byte_at t i)

-- the value of the four hexadecimal digits from a place on, or the first place that has none
unfoldable pub hex4_at : List ℕ → ℕ → Result ℕ ℕ
hex4_at t i = hex4_of i (digit_at t i) (digit_at t (i + 1)) (digit_at t (i + 2)) (digit_at t (i + 3))

-- ---- code points

-- a code point, unless it is a surrogate, a noncharacter or too large: then 3 at the place where its bytes begin.
-- docs/RULES.md, 3.4: U+FDD0 to U+FDEF, and every code point whose low 16 bits are FFFE or FFFF, raw or escaped
unfoldable pub checked_at : ℕ → ℕ → ℕ → Result (Option (ℕ × ℕ)) (Fault ℕ)
checked_at i code len =
    cond (ltb code 0xD800) (Ok (Some (code, len)))
    (cond (ltb code 0xE000) (Err (Forbidden i))
    (cond (ltb code 0xFDD0) (Ok (Some (code, len)))
    (cond (ltb code 0xFDF0) (Err (Forbidden i))
    (cond (ltb 0x10FFFF code) (Err (Forbidden i))
    (cond (ltb (code % 65536) 0xFFFE) (Ok (Some (code, len))) (Err (Forbidden i)))))))

-- ---- raw characters of two to four bytes (RFC 3629; docs/RULES.md, 3.4: a sequence that isn't whole UTF-8, also one cut by the end, is 3 at its first byte)

-- the six bits of a continuation byte, or 64
unfoldable pub tail_of : ℕ → ℕ
tail_of b = cond (ltb b 128) 64 (cond (ltb b 192) (b - 128) 64)

-- the code point of a sequence of two bytes, by its first byte and the bits of the next; U+110000, which is none, where that is no continuation
-- byte or a shorter sequence would do
unfoldable pub seq2 : ℕ → ℕ → ℕ
seq2 b x =
    let code : ℕ = b % 32 * 64 + x in
    cond (ltb 63 x) 0x110000 (cond (ltb code 128) 0x110000 code)

-- of a sequence of three bytes
unfoldable pub seq3 : ℕ → ℕ → ℕ → ℕ
seq3 b x y =
    let code : ℕ = b % 16 * 4096 + x * 64 + y in
    cond (ltb 63 x) 0x110000 (cond (ltb 63 y) 0x110000 (cond (ltb code 2048) 0x110000 code))

-- of a sequence of four bytes
unfoldable pub seq4 : ℕ → ℕ → ℕ → ℕ → ℕ
seq4 b x y z =
    let code : ℕ = b % 8 * 262144 + x * 4096 + y * 64 + z in
    cond (ltb 63 x) 0x110000
    (cond (ltb 63 y) 0x110000 (cond (ltb 63 z) 0x110000 (cond (ltb code 65536) 0x110000 code)))

-- the six bits of the continuation byte at a place, or 64
unfoldable pub tail_at : List ℕ → ℕ → ℕ
tail_at t i = tail_of (byte_at t i)

-- the character at i whose first byte is b, 128 or more
unfoldable pub raw_at : List ℕ → ℕ → ℕ → Result (Option (ℕ × ℕ)) (Fault ℕ)
raw_at t i b =
    cond (ltb b 192) (Err (Forbidden i))
    (cond (ltb b 224) (checked_at i (seq2 b (tail_at t (i + 1))) 2)
    (cond (ltb b 240) (checked_at i (seq3 b (tail_at t (i + 1)) (tail_at t (i + 2))) 3)
    (cond (ltb b 248) (checked_at i (seq4 b (tail_at t (i + 1)) (tail_at t (i + 2)) (tail_at t (i + 3))) 4) (Err (Forbidden i)))))

-- ---- escapes

-- what the letter of a short escape stands for, or 0
unfoldable pub letter_of : ℕ → ℕ
letter_of b =
    cond (eqb b 34) 34
    (cond (eqb b 47) 47
    (cond (eqb b 92) 92
    (cond (eqb b 98) 8
    (cond (eqb b 102) 12
    (cond (eqb b 110) 10
    (cond (eqb b 114) 13
    (cond (eqb b 116) 9 0)))))))

-- a high surrogate escape at i with the four digits of the escape after it.
-- docs/RULES.md, 3.4: it is lone unless a complete low one follows at once, so whatever else follows is 3 at i
unfoldable pub low_at : ℕ → ℕ → Result ℕ ℕ → Result (Option (ℕ × ℕ)) (Fault ℕ)
low_at i high (Err p) = Err (Forbidden i)
low_at i high (Ok low) =
    cond (ltb low 0xDC00) (Err (Forbidden i))
    (cond (ltb low 0xE000) (checked_at i (65536 + high % 1024 * 1024 + low % 1024) 12) (Err (Forbidden i)))

-- a high surrogate escape at i, which another escape must follow
unfoldable pub pair_at : List ℕ → ℕ → ℕ → Result (Option (ℕ × ℕ)) (Fault ℕ)
pair_at t i high =
    cond (eqb (byte_at t (i + 6)) 92)
    (cond (eqb (byte_at t (i + 7)) 117) (low_at i high (hex4_at t (i + 8))) (Err (Forbidden i)))
    (Err (Forbidden i))

-- the escape at i with the value u; `checked_at` refuses a low surrogate that stands alone
unfoldable pub unit_at : List ℕ → ℕ → ℕ → Result (Option (ℕ × ℕ)) (Fault ℕ)
unit_at t i u = cond (ltb u 0xD800) (checked_at i u 6) (cond (ltb u 0xDC00) (pair_at t i u) (checked_at i u 6))

-- the escape \u at i with its four digits; 2 at the first that lacks
unfoldable pub on_hex : List ℕ → ℕ → Result ℕ ℕ → Result (Option (ℕ × ℕ)) (Fault ℕ)
on_hex t i (Ok u) = unit_at t i u
on_hex t i (Err p) = Err (Malformed p)

-- the escape whose backslash stands at i
unfoldable pub escape_at : List ℕ → ℕ → Result (Option (ℕ × ℕ)) (Fault ℕ)
escape_at t i =
    cond (eqb (byte_at t (i + 1)) 117) (on_hex t i (hex4_at t (i + 2)))
    (cond (eqb (letter_of (byte_at t (i + 1))) 0) (Err (Malformed (i + 1))) (Ok (Some (letter_of (byte_at t (i + 1)), 2))))

-- ---- one step

-- what stands at i, with the byte b: a quote, an escape, a control (2), ASCII, a longer character, or the end of the text (2)
unfoldable pub step_by : List ℕ → ℕ → ℕ → Result (Option (ℕ × ℕ)) (Fault ℕ)
step_by t i b =
    let escape = escape_at t i in
    let raw = raw_at t i b in
    cond (eqb b 34) (Ok None)
    (cond (eqb b 92) escape
    (cond (ltb b 32) (Err (Malformed i))
    (cond (ltb b 128) (Ok (Some (b, 1)))
    (cond (ltb b 256) raw (Err (Malformed i))))))

-- what stands at i
abbrev pub step_at : List ℕ → ℕ → Result (Option (ℕ × ℕ)) (Fault ℕ)
step_at t i = step_by t i (byte_at t i)

-- ---- runs of characters

-- whole characters stand from a place inside a string up to another
pub data Chars (t : List ℕ) : (from to : ℕ) → Type 0 where
  stay : {i : ℕ} → Chars t i i
  more : {i j code len : ℕ} → step_at t i ≡ Ok (Some (code, len)) → Chars t (i + len) j → Chars t i j
