-- Inside a string (RFC 8259, section 7; RFC 3629; 01's no. 3): places between and inside characters, and what a byte does there.
-- A refusal is given as soon as it is certain: E0 80 at the second byte, a noncharacter at its last, a high surrogate escape at the first byte with
-- which no complete low one follows. Assumes nothing: these are definitions.
use Rattle.std.specs.Prelude.{Option, Some, None, Result, Ok, Err}
use Rattle.text.specs.declared.Fault.{Fault}
use Rattle.text.specs.declared.Fault.TheVariants.{Malformed, Forbidden}
use Rattle.std.specs.Prelude.{ℕ, zero, suc, ◌+◌, ◌-◌, ◌*◌, ◌%◌, Bool, true, false, cond, ltb, eqb}
use Rattle.text.specs.Chars.{digit_of, tail_of, letter_of}
use Rattle.wire.specs.declared.Inner.{Inner}
use Rattle.wire.specs.declared.Inner.TheVariants.{Plain, Escape, Four, Pair, PairU, Low1, Low2, Low3, Low4, Second3, Second4, Tails}

-- may a string hold that code point?
unfoldable pub sound : ℕ → Bool
sound c =
    cond (ltb c 0xD800) true
    (cond (ltb c 0xE000) false
    (cond (ltb c 0xFDD0) true
    (cond (ltb c 0xFDF0) false
    (cond (ltb 0x10FFFF c) false (ltb (c % 65536) 0xFFFE)))))

-- a character is complete
unfoldable pub checked : (from code : ℕ) → Result (Option Inner) (Fault ℕ)
checked from c = cond (sound c) (Ok (Some Plain)) (Err (Forbidden from))

-- a \u escape is complete
unfoldable pub unit_move : (from unit : ℕ) → Result (Option Inner) (Fault ℕ)
unit_move from u = cond (ltb u 0xD800) (checked from u) (cond (ltb u 0xDC00) (Ok (Some (Pair from u))) (checked from u))

-- one digit more of a \u escape
unfoldable pub hex_move : (from left value : ℕ) → Result (Option Inner) (Fault ℕ)
hex_move from zero u = unit_move from u
hex_move from (suc left) u = Ok (Some (Four from left u))

-- one continuation byte more
unfoldable pub tail_move : (from left bits : ℕ) → Result (Option Inner) (Fault ℕ)
tail_move from zero c = checked from c
tail_move from (suc left) c = Ok (Some (Tails from left c))

-- the second byte of a sequence of three: E0 needs A0 to BF, ED 80 to 9F
unfoldable pub move3 : (from bits : ℕ) → Result (Option Inner) (Fault ℕ)
move3 from c = cond (ltb c 32) (Err (Forbidden from)) (cond (ltb c 864) (Ok (Some (Tails from 0 c))) (cond (ltb c 896) (Err (Forbidden from)) (Ok (Some (Tails from 0 c)))))

-- of a sequence of four: F0 needs 90 to BF, F4 80 to 8F
unfoldable pub move4 : (from bits : ℕ) → Result (Option Inner) (Fault ℕ)
move4 from c = cond (ltb c 16) (Err (Forbidden from)) (cond (ltb c 272) (Ok (Some (Tails from 1 c))) (Err (Forbidden from)))

-- the first byte of a sequence, 128 or more: C2 to DF begin two, E0 to EF three, F0 to F4 four
unfoldable pub lead_move : (at byte : ℕ) → Result (Option Inner) (Fault ℕ)
lead_move at b =
    cond (ltb b 194) (Err (Forbidden at))
    (cond (ltb b 224) (Ok (Some (Tails at 0 (b % 32))))
    (cond (ltb b 240) (Ok (Some (Second3 at (b % 16))))
    (cond (ltb b 245) (Ok (Some (Second4 at (b % 8)))) (Err (Forbidden at)))))

-- the code point of a surrogate pair, by the high one and the ten bits of the low one
abbrev pub paired : (high low : ℕ) → ℕ
paired high low = 65536 + high % 1024 * 1024 + low

-- what the byte at a place does, 256 at the end of the text
unfoldable pub move_of : (at : ℕ) → Inner → (byte : ℕ) → Result (Option Inner) (Fault ℕ)
move_of at Plain b =
    cond (eqb b 34) (Ok None)
    (cond (eqb b 92) (Ok (Some (Escape at)))
    (cond (ltb b 32) (Err (Malformed at))
    (cond (ltb b 128) (Ok (Some Plain))
    (cond (ltb b 256) (lead_move at b) (Err (Malformed at))))))
move_of at (Escape from) b = cond (eqb b 117) (Ok (Some (Four from 3 0))) (cond (eqb (letter_of b) 0) (Err (Malformed at)) (Ok (Some Plain)))
move_of at (Four from left v) b = cond (eqb (digit_of b) 16) (Err (Malformed at)) (hex_move from left (v % 4096 * 16 + digit_of b))
move_of at (Pair from high) b = cond (eqb b 92) (Ok (Some (PairU from high))) (Err (Forbidden from))
move_of at (PairU from high) b = cond (eqb b 117) (Ok (Some (Low1 from high))) (Err (Forbidden from))
move_of at (Low1 from high) b = cond (eqb (digit_of b) 13) (Ok (Some (Low2 from high))) (Err (Forbidden from))
move_of at (Low2 from high) b = cond (ltb (digit_of b) 12) (Err (Forbidden from)) (cond (eqb (digit_of b) 16) (Err (Forbidden from)) (Ok (Some (Low3 from high (digit_of b - 12)))))
move_of at (Low3 from high v) b = cond (eqb (digit_of b) 16) (Err (Forbidden from)) (Ok (Some (Low4 from high (v % 64 * 16 + digit_of b))))
move_of at (Low4 from high v) b = cond (eqb (digit_of b) 16) (Err (Forbidden from)) (checked from (paired high (v % 64 * 16 + digit_of b)))
move_of at (Second3 from c) b = cond (ltb 63 (tail_of b)) (Err (Forbidden from)) (move3 from (c % 65536 * 64 + tail_of b))
move_of at (Second4 from c) b = cond (ltb 63 (tail_of b)) (Err (Forbidden from)) (move4 from (c % 65536 * 64 + tail_of b))
move_of at (Tails from left c) b = cond (ltb 63 (tail_of b)) (Err (Forbidden from)) (tail_move from left (c % 65536 * 64 + tail_of b))
