-- A state in machine words (`Held`, src/lib.rt): what any words mean, and the words that are left of a state. A caller keeps them between two calls, so
-- nothing is assumed of them. Assumes nothing: these are definitions.
use Rattle.std.specs.Prelude.{Result, Ok, Err}
use Rattle.text.specs.declared.Refusal.{Refusal}
use Rattle.std.specs.Prelude.{ℕ, zero, suc, ◌+◌, ◌-◌, ◌*◌, ◌/◌, ◌%◌, cond, List, [], ◌∷◌, length, get_or, ltb, eqb}
use Rattle.text.specs.Text.{bytes}
use Rattle.text.specs.Tree.{Bracket, square, curly}
use Rattle.text.specs.Sheet.{paper}
use Rattle.text.specs.declared.Refusal.TheVariants.{TooLong, Grammar, Character, Deep, Many}
use Rattle.wire.specs.declared.Figure.{Figure}
use Rattle.wire.specs.declared.Figure.TheVariants.{Minus, Nought, Whole, Point, Fraction, Exponent, Sign, Digits}
use Rattle.wire.specs.declared.Inner.{Inner}
use Rattle.wire.specs.declared.Inner.TheVariants.{Plain, Escape, Four, Pair, PairU, Low1, Low2, Low3, Low4, Second3, Second4, Tails}
use Rattle.wire.specs.declared.Held.{Held}
use Rattle.wire.specs.Machine.{Spot, value, first, name, colon, after, word, number, string, key, State, going, over}

-- ---- the open brackets: how many there are, and a bit each, the innermost the lowest

-- 0 is an array, 1 an object
abbrev pub bracket_of : ℕ → Bracket
bracket_of bit = cond (eqb bit 0) square curly

abbrev pub bit_of : Bracket → ℕ
bit_of square = 0
bit_of curly = 1

-- the brackets that so many bits stand for
unfoldable pub opened_of : (depth bits : ℕ) → List Bracket
opened_of zero bits = []
opened_of (suc depth) bits = bracket_of (bits % 2) ∷ opened_of depth (bits / 2)

-- and their bits
unfoldable pub bits_of : List Bracket → ℕ
bits_of [] = 0
bits_of (c ∷ os) = bit_of c + 2 * bits_of os

-- ---- a place inside a number, a literal, a string: its number is its place in a list

unfoldable pub figure_at : (k : ℕ) → Figure
figure_at k = get_or (Minus ∷ Nought ∷ Whole ∷ Point ∷ Fraction ∷ Exponent ∷ Sign ∷ []) k Digits

unfoldable pub figure_code : Figure → ℕ
figure_code Minus = 0
figure_code Nought = 1
figure_code Whole = 2
figure_code Point = 3
figure_code Fraction = 4
figure_code Exponent = 5
figure_code Sign = 6
figure_code Digits = 7

-- what must still come of null, of false, of true; the last e of both is one place
unfoldable pub literal_at : (k : ℕ) → Spot
literal_at k =
    get_or
    (word 117 (bytes "ll") ∷ word 108 (bytes "l") ∷ word 108 [] ∷ word 97 (bytes "lse") ∷ word 108 (bytes "se") ∷ word 115 (bytes "e") ∷ word 101 []
    ∷ word 114 (bytes "ue") ∷ [])
    k (word 117 (bytes "e"))

-- by the byte that must come, and how many follow it
unfoldable pub literal_code : (byte left : ℕ) → ℕ
literal_code b left =
    cond (eqb b 97) 3
    (cond (eqb b 115) 5
    (cond (eqb b 101) 6
    (cond (eqb b 114) 7
    (cond (eqb b 117) (cond (eqb left 2) 0 8)
    (cond (eqb left 0) 2 (cond (eqb left 1) 1 4))))))

unfoldable pub inner_at : (k from bits high : ℕ) → Inner
inner_at k from bits high =
    get_or
    (Plain ∷ Escape from ∷ Four from 3 bits ∷ Four from 2 bits ∷ Four from 1 bits ∷ Four from 0 bits ∷ Pair from high ∷ PairU from high ∷ Low1 from high
    ∷ Low2 from high ∷ Low3 from high bits ∷ Low4 from high bits ∷ Second3 from bits ∷ Second4 from bits ∷ Tails from 0 bits ∷ [])
    k (Tails from 1 bits)

-- by the digits of an escape, or the bytes of a sequence, that are left after the next
unfoldable pub four_code : (left : ℕ) → ℕ
four_code left = cond (eqb left 3) 2 (cond (eqb left 2) 3 (cond (eqb left 1) 4 5))

unfoldable pub tails_code : (left : ℕ) → ℕ
tails_code left = cond (eqb left 0) 14 15

unfoldable pub inner_code : Inner → ℕ
inner_code Plain = 0
inner_code (Escape from) = 1
inner_code (Four from left bits) = four_code left
inner_code (Pair from high) = 6
inner_code (PairU from high) = 7
inner_code (Low1 from high) = 8
inner_code (Low2 from high) = 9
inner_code (Low3 from high bits) = 10
inner_code (Low4 from high bits) = 11
inner_code (Second3 from bits) = 12
inner_code (Second4 from bits) = 13
inner_code (Tails from left bits) = tails_code left

-- where its character begins, its bits, its high surrogate; 0 where it has none
unfoldable pub inner_from : Inner → ℕ
inner_from Plain = 0
inner_from (Escape from) = from
inner_from (Four from left bits) = from
inner_from (Pair from high) = from
inner_from (PairU from high) = from
inner_from (Low1 from high) = from
inner_from (Low2 from high) = from
inner_from (Low3 from high bits) = from
inner_from (Low4 from high bits) = from
inner_from (Second3 from bits) = from
inner_from (Second4 from bits) = from
inner_from (Tails from left bits) = from

unfoldable pub inner_bits : Inner → ℕ
inner_bits Plain = 0
inner_bits (Escape from) = 0
inner_bits (Four from left bits) = bits
inner_bits (Pair from high) = 0
inner_bits (PairU from high) = 0
inner_bits (Low1 from high) = 0
inner_bits (Low2 from high) = 0
inner_bits (Low3 from high bits) = bits
inner_bits (Low4 from high bits) = bits
inner_bits (Second3 from bits) = bits
inner_bits (Second4 from bits) = bits
inner_bits (Tails from left bits) = bits

unfoldable pub inner_high : Inner → ℕ
inner_high Plain = 0
inner_high (Escape from) = 0
inner_high (Four from left bits) = 0
inner_high (Pair from high) = high
inner_high (PairU from high) = high
inner_high (Low1 from high) = high
inner_high (Low2 from high) = high
inner_high (Low3 from high bits) = high
inner_high (Low4 from high bits) = high
inner_high (Second3 from bits) = 0
inner_high (Second4 from bits) = 0
inner_high (Tails from left bits) = 0

-- ---- a spot, by its number: 0 to 4 between tokens, then literals from 5 on, numbers from 14, strings from 22, names from 38, the answer from 54

unfoldable pub spot_at : (code from bits high : ℕ) → Spot
spot_at code from bits high =
    cond (ltb code 5) (get_or (value ∷ first ∷ name ∷ colon ∷ []) code after)
    (cond (ltb code 14) (literal_at (code - 5))
    (cond (ltb code 22) (number (figure_at (code - 14)))
    (cond (ltb code 38) (string (inner_at (code - 22) from bits high)) (key (inner_at (code - 38) from bits high)))))

-- 54 and more: acceptance is 100, a refusal 100 and its number of the sheet; a number that is none of these means 2, so that no odd word is taken for a go-on
unfoldable pub told_at : (code second : ℕ) → Result ℕ Refusal
told_at code second =
    cond (eqb code 100) (Ok second)
    (cond (eqb code 101) (Err TooLong)
    (cond (eqb code 103) (Err (Character second))
    (cond (eqb code 105) (Err (Deep second)) (cond (eqb code 106) (Err (Many second)) (Err (Grammar second))))))

-- what any words mean; where so many bytes were taken
unfoldable pub state_at : (place : ℕ) → Held → State
state_at place h =
    cond (ltb h.spot 54)
    (going place h.values (opened_of h.depth h.opened) (spot_at h.spot h.from h.bits h.high))
    (over (told_at h.spot h.from))

abbrev pub state_of : Held → State
state_of h = state_at h.place h

-- ---- the words of a state: what it doesn't have is 0

-- those of the spot: its number, the place, the bits, the high surrogate
abbrev pub placed : (place values depth opened spot from bits high : ℕ) → Held
placed place values depth opened spot from bits high =
    record { place = place; values = values; depth = depth; opened = opened; spot = spot; from = from; bits = bits; high = high }

unfoldable pub held_of : State → Held
held_of (going at n os value) = placed at n (length os) (bits_of os) 0 0 0 0
held_of (going at n os first) = placed at n (length os) (bits_of os) 1 0 0 0
held_of (going at n os name) = placed at n (length os) (bits_of os) 2 0 0 0
held_of (going at n os colon) = placed at n (length os) (bits_of os) 3 0 0 0
held_of (going at n os after) = placed at n (length os) (bits_of os) 4 0 0 0
held_of (going at n os (word c bs)) = placed at n (length os) (bits_of os) (5 + literal_code c (length bs)) 0 0 0
held_of (going at n os (number f)) = placed at n (length os) (bits_of os) (14 + figure_code f) 0 0 0
held_of (going at n os (string s)) = placed at n (length os) (bits_of os) (22 + inner_code s) (inner_from s) (inner_bits s) (inner_high s)
held_of (going at n os (key s)) = placed at n (length os) (bits_of os) (38 + inner_code s) (inner_from s) (inner_bits s) (inner_high s)
held_of (over a) = placed 0 0 0 0 (100 + (paper a).number) (paper a).second 0 0

-- ---- the same as nine words of 32 bits, for callers from C: the bits of the brackets are two of them

abbrev pub words_of : Held → List ℕ
words_of h =
    h.place ∷ h.values ∷ h.depth ∷ h.opened % 4294967296 ∷ h.opened / 4294967296 ∷ h.spot ∷ h.from ∷ h.bits ∷ h.high ∷ []

abbrev pub held_in : List ℕ → Held
held_in w =
    placed (get_or w 0 0) (get_or w 1 0) (get_or w 2 0) (get_or w 3 0 + 4294967296 * get_or w 4 0) (get_or w 5 0) (get_or w 6 0) (get_or w 7 0) (get_or w 8 0)
