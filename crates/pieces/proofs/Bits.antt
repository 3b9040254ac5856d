-- The bits of the open brackets (`opened_of`, `bits_of`, crate wire): those of so many brackets are the low ones of a word, and all of it where the
-- brackets are as many as its bits. Assumes nothing.
use mathlib.Core.Path.{◌≡◌, ◌∙◌}
use Prim.Native.Nat.{ℕ, zero, suc, ◌*◌, ◌/◌, ◌%◌, ◌^◌, ◌≤◌, ◌<◌}
use native.Mathlib.Nat.{lt_of_lt_of_le, mod-eq_of_lt}
use native.Mathlib.Numerals.{add-one}
use native.Mathlib.Omega.{arith}
use lib.Pow.{pow_mono, mod-pow-add, shl_exact}
use Rattle.laws.proofs.Branches.{if_equal}
use Rattle.wire.specs.Held.{bracket_of, bit_of, opened_of, bits_of}

-- a bit stands for a bracket, whose bit it is
pub bit_round : (bit : ℕ) → bit < 2 → bit_of (bracket_of bit) ≡ bit
bit_round bit h = if_equal (λ c. bit_of c ≡ bit) bit 0 (λ e. omega arith) (λ ne. omega arith)

pub bits_low : (depth bits : ℕ) → bits_of (opened_of depth bits) ≡ bits % 2 ^ depth
unfolding opened_of bits_of
bits_low zero bits = omega arith
bits_low (suc depth) bits =
    let low = bit_round (bits % 2) (omega arith) in
    let high = bits_low depth (bits / 2) in
    let all = mod-pow-add bits depth 1 in
    rw (← add-one depth) (omega arith)

pub bits_all : (depth bits width : ℕ) → width ≤ depth → bits < 2 ^ width → bits_of (opened_of depth bits) ≡ bits
bits_all depth bits width h l = bits_low depth bits ∙ mod-eq_of_lt (lt_of_lt_of_le l (pow_mono h))

-- `1 << depth` at 64 bits, which the machine has as a product cut to 64 bits
pub one_shl : (depth : ℕ) → depth < 64 → 1 * 2 ^ depth % 2 ^ 64 ≡ 2 ^ depth
one_shl depth h =
    let cut = shl_exact {a = 1} 1 depth 64 (omega arith) (omega arith) in
    omega arith
