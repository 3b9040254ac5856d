-- How a new name is spelled (specs/Writing.antt):
--     spelled-name         a name is spelled as the rules of `SpelledName` say, and no other way
--     respelled            what `spelled` writes between its quotes spells the name's code points again
--     new-label            so it says the name
--     shortest, label-shortest     and nothing shorter does
-- Assumes nothing.
use mathlib.Core.Path.{◌≡◌, refl, sym, ap, ap₂, ◌∙◌}
use mathlib.Core.List.{List, [], ◌∷◌, ◌++◌, append_assoc, append-nil}
use Prim.Native.Nat.{ℕ, ◌+◌, ◌*◌, ◌/◌, ◌%◌, ◌≤◌, ◌<◌}
use mathlib.Core.Logic.{◌↔◌}
use native.Mathlib.Decide.{dec_le, dec_lt}
use native.Mathlib.Omega.{arith}
use lib.ListN.{length, length-append}
use borrow.Author.Tests.{ne_eqb, le-ltb, lt-ltb}
use Rattle.laws.proofs.Branches.{if_less, if_equal}
use Rattle.text.specs.Utf8.{utf8}
use Rattle.text.specs.Spelling.{Good, Bare, HexDigit, decimal, small, FourDigits, four, Short, quote, backslash, slash, backspace, form_feed, line_feed, carriage_return, tab, Spell, raw, short, unit, pair, Spells, none, more, utf8s}
use Rattle.text.specs.Writing.{small_hex, short_of, spelled_byte, spelled_bytes, spelled, SmallDigit, figure, letter, SpelledAs, itself, escaped, digits, SpelledAll, SpelledName}
use Rattle.text.specs.Writing as W
use Rattle.text.specs.Labels.{Labelled}
use Rattle.text.proofs.Spelling.Codes.{by_utf8, one_byte}
use Rattle.text.proofs.Spelling.Digits.{four_length}
use Rattle.text.proofs.Spelling.Encoding.{AllGood}

-- ---- one byte

-- the short escape of a byte, if it has one
short_of_lem : (b : ℕ) → (short_of b ≡ 0 → ⊥) → Short (short_of b) b
short_of_lem b =
    if_equal P b 34 (λ e z. rw e quote)
    (λ n1. if_equal P b 92 (λ e z. rw e backslash)
    (λ n2. if_equal P b 8 (λ e z. rw e backspace)
    (λ n3. if_equal P b 9 (λ e z. rw e tab)
    (λ n4. if_equal P b 10 (λ e z. rw e line_feed)
    (λ n5. if_equal P b 12 (λ e z. rw e form_feed)
    (λ n6. if_equal P b 13 (λ e z. rw e carriage_return) (λ n7 z. absurd (z refl))))))))
  where
    P : ℕ → Type 0
    P x = (x ≡ 0 → ⊥) → Short x b

-- one that has none is neither a quote nor a backslash
no_short : (b x : ℕ) → short_of b ≡ 0 → (short_of x ≡ 0 → ⊥) → b ≡ x → ⊥
no_short b x z n e = n (sym (ap short_of e) ∙ z)

plain_char : (b : ℕ) → short_of b ≡ 0 → 32 ≤ b → Bare b
plain_char b z h =
    record { no_control = h; no_quote = no_short b 34 z (λ e. omega arith); no_backslash = no_short b 92 z (λ e. omega arith) }

hex_digit : (n : ℕ) → n < 16 → HexDigit (small_hex n) n
hex_digit n h = if_less (λ x. HexDigit x n) n 10 (λ k. decimal k) (λ k. small k h)

-- \u00 and two digits
low_digits : (b : ℕ) → b < 32 → FourDigits (48 ∷ 48 ∷ small_hex (b / 16) ∷ small_hex (b % 16) ∷ []) b
low_digits b h =
    let zero : HexDigit 48 0 = decimal {v = 0} (omega arith) in
    let d : FourDigits (48 ∷ 48 ∷ small_hex (b / 16) ∷ small_hex (b % 16) ∷ []) (0 * 4096 + 0 * 256 + b / 16 * 16 + b % 16) =
    four zero zero (hex_digit (b / 16) (omega arith)) (hex_digit (b % 16) (omega arith)) in
    let e : 0 * 4096 + 0 * 256 + b / 16 * 16 + b % 16 ≡ b = omega arith in
    rw e at d

byte_spelled : (b : ℕ) → b < 128 → Good b → Spell (spelled_byte b) b
byte_spelled b h g =
    if_equal (λ w. Spell w b) (short_of b) 0
    (λ z. if_less (λ w. Spell w b) b 32 (λ l. unit g (low_digits b l)) (λ l. rw (one_byte b h) at (raw g (plain_char b z l))))
    (λ n. short (short_of_lem b n))

high_short : (b : ℕ) → 128 ≤ b → short_of b ≡ 0
high_short b h =
    simp (
      ne_eqb b 34 (omega arith),
      ne_eqb b 92 (omega arith),
      ne_eqb b 8 (omega arith),
      ne_eqb b 9 (omega arith),
      ne_eqb b 10 (omega arith),
      ne_eqb b 12 (omega arith),
      ne_eqb b 13 (omega arith),
    )

high_byte : (b : ℕ) → 128 ≤ b → spelled_byte b ≡ b ∷ []
high_byte b h = rw (high_short b h, le-ltb b 32 (omega arith))

-- a character that may stand raw
bare_short : (b : ℕ) → Bare b → short_of b ≡ 0
bare_short b u =
    let low = u.no_control in
    simp (
      ne_eqb b 34 u.no_quote,
      ne_eqb b 92 u.no_backslash,
      ne_eqb b 8 (omega arith),
      ne_eqb b 9 (omega arith),
      ne_eqb b 10 (omega arith),
      ne_eqb b 12 (omega arith),
      ne_eqb b 13 (omega arith),
    )

raw_byte : (b : ℕ) → Bare b → spelled_byte b ≡ b ∷ []
raw_byte b u = rw (bare_short b u, le-ltb b 32 u.no_control)

-- ---- one byte by the rules

low_bare : (b : ℕ) → b < 32 → Bare b → ⊥
low_bare b h u = let k = u.no_control in omega arith

-- below 32 only what `short_of` tells has a short escape
low_short : (b : ℕ) → b < 32 → short_of b ≡ 0 → (l : ℕ) → Short l b → ⊥
low_short b h z l quote = omega arith
low_short b h z l backslash = omega arith
low_short b h z l slash = omega arith
low_short b h z l backspace = omega arith
low_short b h z l form_feed = omega arith
low_short b h z l line_feed = omega arith
low_short b h z l carriage_return = omega arith
low_short b h z l tab = omega arith

small_digit : (n : ℕ) → n < 16 → SmallDigit (small_hex n) n
small_digit n h = if_less (λ x. SmallDigit x n) n 10 (λ k. figure k) (λ k. letter k h)

byte_rules : (b : ℕ) → SpelledAs b (spelled_byte b)
byte_rules b =
    if_equal (SpelledAs b) (short_of b) 0
    (λ z. if_less (SpelledAs b) b 32 (λ l. two z l) (λ l. itself (plain_char b z l)))
    (λ n. escaped (λ u. n (bare_short b u)) (short_of_lem b n))
  where
    two : short_of b ≡ 0 → b < 32 → SpelledAs b (92 ∷ 117 ∷ 48 ∷ 48 ∷ small_hex (b / 16) ∷ small_hex (b % 16) ∷ [])
    two z l =
        let e : b / 16 * 16 + b % 16 ≡ b = omega arith in
        let s : SpelledAs (b / 16 * 16 + b % 16) (92 ∷ 117 ∷ 48 ∷ 48 ∷ small_hex (b / 16) ∷ small_hex (b % 16) ∷ []) =
        digits {x = b / 16} {y = b % 16}
        (rw e (low_bare b l))
        (rw e (low_short b l z))
        (small_digit (b / 16) (omega arith))
        (small_digit (b % 16) (omega arith)) in
        rw e at s

digit_low : {d v : ℕ} → SmallDigit d v → v < 16
digit_low (figure h) = omega arith
digit_low (letter h k) = k

digit_hex : {d v : ℕ} → SmallDigit d v → d ≡ small_hex v
digit_hex (figure {v} h) = rw (lt-ltb v 10 h)
digit_hex (letter {v} h k) = rw (le-ltb v 10 h)

rules_short : {l b : ℕ} → (Bare b → ⊥) → Short l b → 92 ∷ l ∷ [] ≡ spelled_byte b
rules_short n quote = refl
rules_short n backslash = refl
rules_short n slash = absurd (n (record { no_control = omega arith; no_quote = λ e. omega arith; no_backslash = λ e. omega arith }))
rules_short n backspace = refl
rules_short n form_feed = refl
rules_short n line_feed = refl
rules_short n carriage_return = refl
rules_short n tab = refl

-- what has no short escape and may not stand raw
rules_low : (b : ℕ) → (Bare b → ⊥) → ((l : ℕ) → Short l b → ⊥) → (short_of b ≡ 0) × (b < 32)
rules_low b n m = elim (dec_le (short_of b) 0) [
  | yes z ↦ elim (dec_lt b 32) [
    | yes h ↦ (omega arith, h)
    | no h ↦ absurd (n (plain_char b (omega arith) (omega arith)))
  ]
  | no z ↦ absurd (m (short_of b) (short_of_lem b (λ e. omega arith)))
]

rules_byte : {b : ℕ} {w : List ℕ} → SpelledAs b w → w ≡ spelled_byte b
rules_byte (itself {b} u) = sym (raw_byte b u)
rules_byte (escaped n s) = rules_short n s
rules_byte (digits {d} {e} {x} {y} n m p q) =
    let k = rules_low (x * 16 + y) n m in
    let i : (x * 16 + y) / 16 ≡ x = omega (arith, digit_low q) in
    let j : (x * 16 + y) % 16 ≡ y = omega (arith, digit_low q) in
    rw (k.0, lt-ltb (x * 16 + y) 32 k.1, i, j, digit_hex p, digit_hex q)

all_spelled : {n w : List ℕ} → SpelledAll n w → w ≡ spelled_bytes n
all_spelled W.none = refl
all_spelled (W.more {b = b} {bs = bs} x s) = ap₂ ◌++◌ (rules_byte x) (all_spelled s)

spelled_all : (n : List ℕ) → SpelledAll n (spelled_bytes n)
spelled_all [] = W.none
spelled_all (b ∷ bs) = W.more (byte_rules b) (spelled_all bs)

name_spelled : {n label : List ℕ} → SpelledName n label → label ≡ spelled n
name_spelled (W.quoted s) = ap (λ (w : List ℕ). 34 ∷ w ++ (34 ∷ [])) (all_spelled s)

-- theorem: and so is a name
pub spelled_name : (n label : List ℕ) → SpelledName n label ↔ (label ≡ spelled n)
spelled_name n label = (name_spelled, λ e. rw e (W.quoted (spelled_all n)))

-- ---- one character

spelled_append : (v w : List ℕ) → spelled_bytes (v ++ w) ≡ spelled_bytes v ++ spelled_bytes w
spelled_append [] w = refl
spelled_append (b ∷ v) w = ap (λ (x : List ℕ). spelled_byte b ++ x) (spelled_append v w) ∙ sym (append_assoc (spelled_byte b) (spelled_bytes v) (spelled_bytes w))

-- what is longer than a byte is written as it is
high_spelled : (c : ℕ) → 128 ≤ c → spelled_bytes (utf8 c) ≡ utf8 c
high_spelled c h =
    by_utf8 (λ w. spelled_bytes w ≡ w) c
    (λ k. absurd (omega arith))
    (λ k l. simp (high_byte (192 + c / 64 % 32) (omega arith), high_byte (128 + c % 64) (omega arith)))
    (λ k l. simp (high_byte (224 + c / 4096 % 16) (omega arith), high_byte (128 + c / 64 % 64) (omega arith), high_byte (128 + c % 64) (omega arith)))
    (λ k. simp (high_byte (240 + c / 262144 % 8) (omega arith), high_byte (128 + c / 4096 % 64) (omega arith), high_byte (128 + c / 64 % 64) (omega arith), high_byte (128 + c % 64) (omega arith)))

char_spelled : (c : ℕ) → Good c → Spell (spelled_bytes (utf8 c)) c
char_spelled c g = elim (dec_lt c 128) [
  | yes h ↦ rw (one_byte c h, append-nil (spelled_byte c)) (byte_spelled c h g)
  | no h ↦ let k : 128 ≤ c = omega arith in
      rw (high_spelled c k) (raw g (record { no_control = omega arith; no_quote = λ e. omega arith; no_backslash = λ e. omega arith }))
]

-- ---- a name

pub respelled : (cs : List ℕ) → AllGood cs → Spells (spelled_bytes (utf8s cs)) cs
unfolding utf8s
respelled [] g = none
respelled (c ∷ cs) g = rw (spelled_append (utf8 c) (utf8s cs)) (more (char_spelled c g.0) (respelled cs g.1))

pub new_label : (cs : List ℕ) → AllGood cs → Labelled (utf8s cs) (spelled (utf8s cs))
new_label cs g = record { inside = spelled_bytes (utf8s cs); codes = cs; quoted = refl; spells = respelled cs g; says = refl }

-- ---- nothing shorter says it

byte_six : (b : ℕ) → length (spelled_byte b) ≤ 6
byte_six b =
    if_equal (λ (w : List ℕ). length w ≤ 6) (short_of b) 0
    (λ z. if_less (λ (w : List ℕ). length w ≤ 6) b 32 (λ l. omega arith) (λ l. omega arith))
    (λ n. omega arith)

utf8_four : (c : ℕ) → length (utf8 c) ≤ 4
utf8_four c = by_utf8 (λ w. length w ≤ 4) c (λ h. omega arith) (λ h k. omega arith) (λ h k. omega arith) (λ h. omega arith)

char_six : (c : ℕ) → length (spelled_bytes (utf8 c)) ≤ 6
char_six c = elim (dec_lt c 128) [
  | yes h ↦ rw (one_byte c h, append-nil (spelled_byte c)) (byte_six c)
  | no h ↦ let k : 128 ≤ c = omega arith in rw (high_spelled c k) (omega (arith, utf8_four c))
]

raw_length : (c : ℕ) → Bare c → length (spelled_bytes (utf8 c)) ≤ length (utf8 c)
raw_length c u = elim (dec_lt c 128) [
  | yes h ↦ rw (one_byte c h, append-nil (spelled_byte c), raw_byte c u) (omega arith)
  | no h ↦ let k : 128 ≤ c = omega arith in rw (high_spelled c k) (omega arith)
]

short_length : {b c : ℕ} → Short b c → length (spelled_bytes (utf8 c)) ≤ 2
unfolding utf8
short_length quote = omega arith
short_length backslash = omega arith
short_length slash = omega arith
short_length backspace = omega arith
short_length form_feed = omega arith
short_length line_feed = omega arith
short_length carriage_return = omega arith
short_length tab = omega arith

char_shortest : {w : List ℕ} {c : ℕ} → Spell w c → length (spelled_bytes (utf8 c)) ≤ length w
char_shortest (raw {c} g u) = raw_length c u
char_shortest (short s) = short_length s
char_shortest (unit {w} {c} g d) = omega (arith, char_six c, four_length d)
char_shortest (pair {v} {w} {h} {l} d k e m g) =
    omega (arith, char_six (0x10000 + h * 0x400 + l), four_length d, length-append v (92 ∷ 117 ∷ w))

pub shortest : {w cs : List ℕ} → Spells w cs → length (spelled_bytes (utf8s cs)) ≤ length w
unfolding utf8s
shortest none = omega arith
shortest (more {w} {u} {c} {cs} s r) =
    omega (
      arith,
      ap length (spelled_append (utf8 c) (utf8s cs)),
      length-append (spelled_bytes (utf8 c)) (spelled_bytes (utf8s cs)),
      length-append w u,
      char_shortest s,
      shortest r,
    )

pub label_shortest : {n label : List ℕ} → Labelled n label → length (spelled n) ≤ length label
label_shortest {n} {label} h =
    omega (
      arith,
      shortest h.spells,
      ap (λ (x : List ℕ). length (spelled_bytes x)) h.says,
      ap length h.quoted,
      length-append (34 ∷ spelled_bytes n) (34 ∷ []),
      length-append (34 ∷ h.inside) (34 ∷ []),
    )
