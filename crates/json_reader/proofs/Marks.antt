-- Marks in the bytes of a number, by which the code tells eight bytes at once:
--     xor-seven                                  its sums fit
--     plain-marked, own-marked                   the bytes below the lowest mark are plain, and plain and neither slashes nor tildes
--     counted                                    zeros below the lowest bit, eight for each byte
--     alike-marked                               bytes below the lowest mark and the lowest bit in which two numbers differ
-- What the code does to eight bytes at once it does to each: by blocks of a byte (`marks_bytes`), and of one byte by trying all 256 (`by_trying`).
-- Assumes nothing.
use Prim.Native.Nat.{ℕ, zero, suc, ◌+◌, ◌*◌, ◌/◌, ◌%◌, ◌≤◌, ◌<◌}
use mathlib.Core.Path.{◌≡◌, refl, sym, subst, ◌∙◌}
use mathlib.Core.Bool.{Bool, true, false, ◌&&◌, ◌||◌, not, true≢false}
use native.Mathlib.Omega.{arith}
use native.Mathlib.Decide.{dec_le}
use lib.Dec.{ltb, leb, eqb}
use lib.Bits.{bit_and, bit_or, bit_xor, and_block, or_block, xor_block, and_le_l, and_le_r, or_add_and, xor_add_and, or_lt, xor_lt, and_lt}
use lib.Count.{under, count_trailing_zeros, trailing_le}
use borrow.Author.Tests.{ltb-true, leb-true, eqb-false}
use Rattle.laws.proofs.Picks.{denied}
use Rattle.json_reader.specs.Plain.{Plain, Own, Bytes, AlikeBytes, Zero, MarkedBytes}

-- ---- bytes of a number

-- the lowest byte of a number, and the number above it
record Block (w above low : ℕ) : Type 0 where
  is : w ≡ above * 256 + low
  small : low < 256

lowest : (w : ℕ) → Block w (w / 256) (w % 256)
lowest w = record { is = omega arith; small = omega arith }

module _ {v w x y a b : ℕ} (p : Block v x a) (q : Block w y b) where
  and_bytes : Block (bit_and v w) (bit_and x y) (bit_and a b)
  and_bytes = record { is = rw (p.is, q.is) (and_block 8 x y a b p.small q.small); small = and_lt 8 a b p.small q.small }

  or_bytes : Block (bit_or v w) (bit_or x y) (bit_or a b)
  or_bytes = record { is = rw (p.is, q.is) (or_block 8 x y a b p.small q.small); small = or_lt 8 a b p.small q.small }

  xor_bytes : Block (bit_xor v w) (bit_xor x y) (bit_xor a b)
  xor_bytes = record { is = rw (p.is, q.is) (xor_block 8 x y a b p.small q.small); small = xor_lt 8 a b p.small q.small }

  sum_bytes : a + b < 256 → Block (v + w) (x + y) (a + b)
  sum_bytes h = record { is = omega (arith, p.is, q.is); small = h }

-- n times the byte c
unfoldable rep : (n c : ℕ) → ℕ
rep zero c = 0
rep (suc n) c = rep n c * 256 + c

repeated : (n c : ℕ) → c < 256 → Block (rep (suc n) c) (rep n c) c
unfolding rep
repeated n c h = record { is = refl; small = h }

-- where the lowest byte is zero
clear : (k : ℕ) {w v b : ℕ} → Block w v b → Bytes Zero (suc k) w → (b ≡ 0) × Bytes Zero k v
clear k {w} {v} {b} p z =
    let high : w / 256 ≡ v = omega (arith, p.is, p.small) in
    let low : w % 256 ≡ b = omega (arith, p.is, p.small) in
    (sym low ∙ z.0, subst (Bytes Zero k) high z.1)

-- ---- the marks

-- a byte has its mark unless both sums of its lowest seven bits reach 128
abbrev marked : (w low x c y d top : ℕ) → ℕ
marked w low x c y d top = bit_and (bit_or w (bit_xor (bit_and (bit_xor low x + c) (bit_xor low y + d)) top)) top

module _ (x c y d : ℕ) where
  unfoldable marks : (n w : ℕ) → ℕ
  marks n w = marked w (bit_and w (rep n 127)) (rep n x) (rep n c) (rep n y) (rep n d) (rep n 128)

  unfoldable mark : ℕ → ℕ
  mark b = marked b (bit_and b 127) x c y d 128

  module _ (x-seven : x < 128) (c-most : c ≤ 128) (y-seven : y < 128) (d-most : d ≤ 128) where
    marks_bytes : (n : ℕ) {w v b : ℕ} → Block w v b → Block (marks (suc n) w) (marks n v) (mark b)
    unfolding marks mark
    marks_bytes n {w} {v} {b} p =
        let top = repeated n 128 (omega arith) in
        let low = and_bytes p (repeated n 127 (omega arith)) in
        let l = and_le_r b 127 in
        let s = xor_lt 7 (bit_and b 127) x (omega arith) x-seven in
        let t = xor_lt 7 (bit_and b 127) y (omega arith) y-seven in
        let first = sum_bytes (xor_bytes low (repeated n x (omega arith))) (repeated n c (omega arith)) (omega arith) in
        let second = sum_bytes (xor_bytes low (repeated n y (omega arith))) (repeated n d (omega arith)) (omega arith) in
        and_bytes (or_bytes p (xor_bytes (and_bytes first second) top)) top

    told : {P : ℕ → Type 0} → ((b : ℕ) → b < 256 → mark b ≡ 0 → P b) → (n k w : ℕ) → k ≤ n → Bytes Zero k (marks n w) → Bytes P k w
    told tells n zero w h z = tt
    told tells zero (suc k) w h z = absurd (omega arith)
    told tells (suc n) (suc k) w h z =
        let low = lowest w in
        let m = clear k (marks_bytes n low) z in
        (tells (w % 256) low.small m.0, told tells n k (w / 256) (omega arith) m.1)

-- ---- of one byte

unfoldable all : (ℕ → Bool) → ℕ → Bool
all f zero = true
all f (suc n) = f n && all f n

and_true : (a b : Bool) → (a && b) ≡ true → (a ≡ true) × (b ≡ true)
and_true true b e = (refl, e)
and_true false b e = absurd (true≢false (sym e))

all_below : (f : ℕ → Bool) (n : ℕ) → all f n ≡ true → (b : ℕ) → b < n → f b ≡ true
unfolding all
all_below f zero e b h = absurd (omega arith)
all_below f (suc n) e b h = elim (dec_le n b) [
  | yes k ↦ let s : n ≡ b = omega arith in subst (λ (x : ℕ). f x ≡ true) s (and_true (f n) (all f n) e).0
  | no k ↦ all_below f n (and_true (f n) (all f n) e).1 b (omega arith)
]

-- a byte without a mark passes a test
unfoldable passes : (ℕ → ℕ) → (ℕ → Bool) → ℕ → Bool
passes mark_of is b = not (eqb (mark_of b) 0) || is b

by_trying : (mark_of : ℕ → ℕ) (is : ℕ → Bool) → all (passes mark_of is) 256 ≡ true → (b : ℕ) → b < 256 → mark_of b ≡ 0 → is b ≡ true
unfolding passes
by_trying mark_of is computed b h e = rest (mark_of b) (is b) e (all_below (passes mark_of is) 256 computed b h)
  where
    rest : (m : ℕ) (p : Bool) → m ≡ 0 → (not (eqb m 0) || p) ≡ true → p ≡ true
    rest m p e k = rw e at k

is_plain : ℕ → Bool
is_plain b = leb 32 b && ltb b 128 && not (eqb b 34) && not (eqb b 92)

tried_plain : all (passes (mark 2 95 92 127) is_plain) 256 ≡ true
unfolding all passes is_plain mark
tried_plain = refl

plain_byte : (b : ℕ) → b < 256 → mark 2 95 92 127 b ≡ 0 → Plain b
unfolding is_plain
plain_byte b small m =
    let e = by_trying (mark 2 95 92 127) is_plain tried_plain b small m in
    let h = and_true (leb 32 b && ltb b 128 && not (eqb b 34)) (not (eqb b 92)) e in
    let k = and_true (leb 32 b && ltb b 128) (not (eqb b 34)) h.0 in
    let l = and_true (leb 32 b) (ltb b 128) k.0 in
    record {
      printable = leb-true 32 b l.0;
      ascii = ltb-true b 128 l.1;
      no_quote = eqb-false b 34 (denied (eqb b 34) k.1);
      no_slash = eqb-false b 92 (denied (eqb b 92) h.1);
    }

-- neither a slash nor a tilde
abbrev Unparted : ℕ → Type 0
Unparted b = (b ≡ 47 → ⊥) × (b ≡ 126 → ⊥)

is_unparted : ℕ → Bool
is_unparted b = not (eqb b 47) && not (eqb b 126)

tried_unparted : all (passes (mark 47 127 126 127) is_unparted) 256 ≡ true
unfolding all passes is_unparted mark
tried_unparted = refl

unparted_byte : (b : ℕ) → b < 256 → mark 47 127 126 127 b ≡ 0 → Unparted b
unfolding is_unparted
unparted_byte b small m =
    let h = and_true (not (eqb b 47)) (not (eqb b 126)) (by_trying (mark 47 127 126 127) is_unparted tried_unparted b small m) in
    (eqb-false b 47 (denied (eqb b 47) h.0), eqb-false b 126 (denied (eqb b 126) h.1))

-- ---- two numbers

or_none : (a b : ℕ) → bit_or a b ≡ 0 → (a ≡ 0) × (b ≡ 0)
or_none a b e = (omega (arith, or_add_and a b, and_le_l a b, and_le_r a b), omega (arith, or_add_and a b, and_le_l a b, and_le_r a b))

xor_none : (a b : ℕ) → bit_xor a b ≡ 0 → a ≡ b
xor_none a b e = omega (arith, xor_add_and a b, and_le_l a b, and_le_r a b)

either_clear : (k m n : ℕ) → Bytes Zero k (bit_or m n) → Bytes Zero k m × Bytes Zero k n
either_clear zero m n z = (tt, tt)
either_clear (suc k) m n z =
    let h = clear k (or_bytes (lowest m) (lowest n)) z in
    let low = or_none (m % 256) (n % 256) h.0 in
    let high = either_clear k (m / 256) (n / 256) h.1 in
    ((low.0, high.0), (low.1, high.1))

joined : (k w : ℕ) → Bytes Plain k w → Bytes Unparted k w → Bytes Own k w
joined zero w p q = tt
joined (suc k) w p q = (record { plain = p.0; no_part = q.0.0; no_tilde = q.0.1 }, joined k (w / 256) p.1 q.1)

same_bytes : (P : ℕ → Type 0) (k v w : ℕ) → Bytes P k v → Bytes Zero k (bit_xor v w) → AlikeBytes P k v w
same_bytes P zero v w p z = tt
same_bytes P (suc k) v w p z =
    let h = clear k (xor_bytes (lowest v) (lowest w)) z in
    (p.0, (xor_none (v % 256) (w % 256) h.0, same_bytes P k (v / 256) (w / 256) p.1 h.1))

pub alike_marked : (P : ℕ → Type 0) (m v w k : ℕ) → MarkedBytes P m v → k ≤ 8 → Bytes Zero k (bit_or m (bit_xor v w)) → AlikeBytes P k v w
alike_marked P m v w k tells h z =
    let c = either_clear k m (bit_xor v w) z in
    same_bytes P k v w (tells k h c.0) c.1

-- ---- no bit below a number's lowest one

-- the lowest j bits are zero
abbrev Zeros : (j w : ℕ) → Type 0
Zeros zero w = Prim.Unit {0}
Zeros (suc j) w = (w % 2 ≡ 0) × Zeros j (w / 2)

below : (w d : ℕ) → w % 2 ≡ d → (j t : ℕ) → suc j ≤ under d t → (j ≤ t → Zeros j (w / 2)) → Zeros (suc j) w
below w zero e j t h rest = (e, rest (omega arith))
below w (suc d) e j t h rest = absurd (omega arith)

trailing : (k w j : ℕ) → j ≤ count_trailing_zeros k w → Zeros j w
unfolding count_trailing_zeros
trailing k w zero h = tt
trailing zero w (suc j) h = absurd (omega arith)
trailing (suc k) w (suc j) h = below w (w % 2) refl j (count_trailing_zeros k (w / 2)) h (λ l. trailing k (w / 2) j l)

-- eight bits for each byte
abbrev bits : ℕ → ℕ
bits zero = 0
bits (suc k) = suc (suc (suc (suc (suc (suc (suc (suc (bits k))))))))

bits_eight : (k : ℕ) → bits k ≡ 8 * k
bits_eight zero = refl
bits_eight (suc k) = let h = bits_eight k in omega arith

zero_bytes : (k w : ℕ) → Zeros (bits k) w → Bytes Zero k w
zero_bytes zero w z = tt
zero_bytes (suc k) w z =
    let e : w / 2 / 2 / 2 / 2 / 2 / 2 / 2 / 2 ≡ w / 256 = omega arith in
    (omega arith, zero_bytes k (w / 256) (rw e at z.1.1.1.1.1.1.1.1))

pub few : (w : ℕ) → count_trailing_zeros 64 w / 8 ≤ 8
few w = omega (arith, trailing_le 64 w)

pub counted : (w : ℕ) → Bytes Zero (count_trailing_zeros 64 w / 8) w
counted w =
    let k = count_trailing_zeros 64 w / 8 in
    zero_bytes k w (trailing 64 w (bits k) (omega (arith, bits_eight k)))

-- ---- the code's eight bytes

low_seven : (w : ℕ) → bit_and w 0x7F7F7F7F7F7F7F7F ≤ 0x7F7F7F7F7F7F7F7F
low_seven w = and_le_r w 0x7F7F7F7F7F7F7F7F

pub xor_seven : (w c : ℕ) → c < 0x8000000000000000 → bit_xor (bit_and w 0x7F7F7F7F7F7F7F7F) c < 0x8000000000000000
xor_seven w c h = xor_lt 63 (bit_and w 0x7F7F7F7F7F7F7F7F) c (omega (arith, low_seven w)) h

abbrev eight_marks : (x c y d w : ℕ) → ℕ
eight_marks x c y d w = marked w (bit_and w 0x7F7F7F7F7F7F7F7F) x c y d 0x8080808080808080

pub plain_marked : (w : ℕ) → MarkedBytes Plain (eight_marks 0x0202020202020202 0x5F5F5F5F5F5F5F5F 0x5C5C5C5C5C5C5C5C 0x7F7F7F7F7F7F7F7F w) w
unfolding marks rep
plain_marked w k h z = told 2 95 92 127 (omega arith) (omega arith) (omega arith) (omega arith) plain_byte 8 k w h z

unparted_marked : (w : ℕ) → MarkedBytes Unparted (eight_marks 0x2F2F2F2F2F2F2F2F 0x7F7F7F7F7F7F7F7F 0x7E7E7E7E7E7E7E7E 0x7F7F7F7F7F7F7F7F w) w
unfolding marks rep
unparted_marked w k h z = told 47 127 126 127 (omega arith) (omega arith) (omega arith) (omega arith) unparted_byte 8 k w h z

pub own_marked : {m : ℕ} (w : ℕ) → MarkedBytes Plain m w
    → MarkedBytes Own (bit_or m (eight_marks 0x2F2F2F2F2F2F2F2F 0x7F7F7F7F7F7F7F7F 0x7E7E7E7E7E7E7E7E 0x7F7F7F7F7F7F7F7F w)) w
own_marked {m} w plain k h z =
    let c = either_clear k m (eight_marks 0x2F2F2F2F2F2F2F2F 0x7F7F7F7F7F7F7F7F 0x7E7E7E7E7E7E7E7E 0x7F7F7F7F7F7F7F7F w) z in
    joined k w (plain k h c.0) (unparted_marked w k h c.1)
