-- The open brackets as bits (`opened_of`, crate wire):
--     opened-low      only so many low bits count as brackets are open
--     opened-push     a bracket more: the word doubled, without its highest bit, and the bracket's bit
--     opened-pop      one fewer: the word halved; the innermost is its lowest bit
-- Assumes nothing.
use mathlib.Core.Path.{◌≡◌, refl}
use mathlib.Core.List.{◌∷◌}
use Prim.Native.Nat.{ℕ, zero, suc, ◌+◌, ◌-◌, ◌*◌, ◌/◌, ◌%◌, ◌^◌, ◌≤◌, ◌<◌}
use native.Mathlib.Omega.{arith}
use native.Mathlib.Nat.{pow-suc}
use lib.Arith.{mod-mul}
use lib.Pow.{pow_pos}
use Rattle.wire.specs.Held.{bracket_of, opened_of}

pub opened_low : (k depth bits : ℕ) → depth ≤ k → opened_of depth (bits % 2 ^ k) ≡ opened_of depth bits
unfolding opened_of
opened_low k zero bits h = refl
opened_low zero (suc depth) bits h = absurd (omega arith)
opened_low (suc k) (suc depth) bits h =
    let split : bits % 2 ^ suc k ≡ (bits / 2 % 2 ^ k) * 2 + bits % 2 = rw (pow-suc 2 k) (mod-mul bits (pow_pos k) (omega arith)) in
    let low : bits % 2 ^ suc k % 2 ≡ bits % 2 = omega arith in
    let high : bits % 2 ^ suc k / 2 ≡ bits / 2 % 2 ^ k = omega arith in
    rw (low, high, opened_low k depth (bits / 2) (omega arith))

pub opened_push : (depth bits bit : ℕ) → depth ≤ 63 → bit < 2
    → opened_of (depth + 1) (bits % 0x8000000000000000 * 2 + bit) ≡ bracket_of bit ∷ opened_of depth bits
unfolding opened_of
opened_push depth bits bit d h =
    let s : depth + 1 ≡ suc depth = omega arith in
    let low : (bits % 0x8000000000000000 * 2 + bit) % 2 ≡ bit = omega arith in
    let high : (bits % 0x8000000000000000 * 2 + bit) / 2 ≡ bits % 0x8000000000000000 = omega arith in
    let kept : opened_of depth (bits % 0x8000000000000000) ≡ opened_of depth bits = opened_low 63 depth bits d in
    rw (s, low, high, kept)

pub opened_pop : (depth bits : ℕ) → (depth ≡ 0 → ⊥) → opened_of depth bits ≡ bracket_of (bits % 2) ∷ opened_of (depth - 1) (bits / 2)
unfolding opened_of
opened_pop zero bits h = absurd (h refl)
opened_pop (suc depth) bits h = let d : suc depth - 1 ≡ depth = omega arith in rw d
