-- Code points and their UTF-8:
--     by-checked, good-checked     `checked_at` takes exactly the good code points
--     by-utf8, utf8-table          the four shapes of UTF-8, which are the table of RFC 3629
--     tail-bits, tail-byte         the six bits of a continuation byte
--     joined2, joined3, joined4    a code point is put together again from its bytes
--     shown2, shown3, shown4       a good code point that was put together from bytes has them for its UTF-8
-- Assumes nothing.
use Rattle.std.specs.Prelude.{Option, Some, Result, Ok, Err}
use Rattle.text.specs.declared.Fault.{Fault}
use Rattle.text.specs.declared.Fault.TheVariants.{Forbidden}
use mathlib.Core.Path.{◌≡◌, refl, ◌∙◌}
use mathlib.Core.List.{List, [], ◌∷◌}
use mathlib.Core.Logic.{◌⊎◌, inl, inr, ⊎_elim}
use Prim.Native.Nat.{ℕ, ◌+◌, ◌*◌, ◌/◌, ◌%◌, ◌≤◌, ◌<◌}
use native.Mathlib.Nat.{not-le_of_lt}
use native.Mathlib.Omega.{arith}
use borrow.Author.Tests.{lt-ltb, le-ltb}
use Rattle.laws.proofs.Bounds.{AllBelow}
use Rattle.laws.proofs.Branches.{if_less}
use Rattle.text.specs.Chars.{checked_at, tail_of, seq2, seq3, seq4}
use Rattle.text.specs.Utf8.{Utf8, conts, utf8}
use Rattle.text.specs.Spelling.{Noncharacter, block, last_two, Good}
use Rattle.text.proofs.Sequences.{by_seq2, by_seq3, by_seq4}
use Rattle.text.proofs.Laws.{two, three, four}

-- ---- good code points ----

-- outside the block, and not one of the last two of a plane
record Outside (c : ℕ) : Type 0 where
  block_left : (c < 0xFDD0) ⊎ (0xFDF0 ≤ c)
  plane : c % 65536 < 0xFFFE

no_noncharacter : {c : ℕ} → Outside c → Noncharacter c → ⊥
no_noncharacter o (block lo hi) = elim o.block_left [ inl h ↦ omega arith | inr h ↦ omega arith ]
no_noncharacter o (last_two h) = omega arith

made_good : (c : ℕ) → c ≤ 0x10FFFF → (c < 0xD800) ⊎ (0xE000 ≤ c) → Outside c → Good c
made_good c r s o = record { scalar = record { within_range = r; no_surrogate = s }; character = λ n. no_noncharacter o n }

low_good : (c : ℕ) → c < 0xD800 → Good c
low_good c h = made_good c (omega arith) (inl h) (record { block_left = inl (omega arith); plane = omega arith })

middle_good : (c : ℕ) → 0xE000 ≤ c → c < 0xFDD0 → Good c
middle_good c h k = made_good c (omega arith) (inr h) (record { block_left = inl k; plane = omega arith })

high_good : (c : ℕ) → 0xFDF0 ≤ c → c ≤ 0x10FFFF → c % 65536 < 0xFFFE → Good c
high_good c h k l = made_good c k (inr (omega arith)) (record { block_left = inr h; plane = l })

surrogate_bad : (c : ℕ) → 0xD800 ≤ c → c < 0xE000 → Good c → ⊥
surrogate_bad c h k g = ⊎_elim (λ (l : c < 0xD800). omega arith) (λ (l : 0xE000 ≤ c). omega arith) g.scalar.no_surrogate

block_bad : (c : ℕ) → 0xFDD0 ≤ c → c < 0xFDF0 → Good c → ⊥
block_bad c h k g = g.character (block h (omega arith))

plane_bad : (c : ℕ) → 0xFFFE ≤ c % 65536 → Good c → ⊥
plane_bad c h g = g.character (last_two h)

large_bad : (c : ℕ) → 0x10FFFF < c → Good c → ⊥
large_bad c h g = let k = g.scalar.within_range in omega arith

ruleset goodness = (low_good, middle_good, high_good, surrogate_bad, block_bad, plane_bad, large_bad)

pub by_checked : (P : Result (Option (ℕ × ℕ)) (Fault ℕ) → Type 0) (i c n : ℕ) → (Good c → P (Ok (Some (c, n)))) → ((Good c → ⊥) → P (Err (Forbidden i))) → P (checked_at i c n)
unfolding checked_at
by_checked P i c n good bad = search (if_less P, goodness) depth 9

pub good_checked : (i c n : ℕ) → Good c → checked_at i c n ≡ Ok (Some (c, n))
good_checked i c n g = by_checked (λ s. s ≡ Ok (Some (c, n))) i c n (λ h. refl) (λ h. absurd (h g))

pub ascii_good : (c : ℕ) → c < 128 → Good c
ascii_good c h = low_good c (omega arith)

-- ---- UTF-8 ----

pub by_utf8 : (P : List ℕ → Type 0) (c : ℕ) → (c < 128 → P (c ∷ [])) → (128 ≤ c → c < 2048 → P ((192 + c / 64 % 32) ∷ (128 + c % 64) ∷ []))
    → (2048 ≤ c → c < 65536 → P ((224 + c / 4096 % 16) ∷ (128 + c / 64 % 64) ∷ (128 + c % 64) ∷ []))
    → (65536 ≤ c → P ((240 + c / 262144 % 8) ∷ (128 + c / 4096 % 64) ∷ (128 + c / 64 % 64) ∷ (128 + c % 64) ∷ [])) → P (utf8 c)
unfolding utf8 conts
by_utf8 P c one two three four = if_less P c 128 one (λ a. if_less P c 2048 (two a) (λ b. if_less P c 65536 (three b) four))

-- theorem: the table of RFC 3629
pub utf8_table : (c : ℕ) → c ≤ 0x10FFFF → Utf8 c (utf8 c)
utf8_table c h =
    by_utf8 (Utf8 c) c
    (λ k. Utf8.one_byte k)
    (λ k l.
    let e : c / 64 % 32 * 64 + c % 64 ≡ c = omega arith in
    rw e at (Utf8.two_bytes {x = c / 64 % 32} {y = c % 64} (omega arith) (omega arith) (rw e k)))
    (λ k l.
    let e : c / 4096 % 16 * 4096 + c / 64 % 64 * 64 + c % 64 ≡ c = omega arith in
    rw e at (Utf8.three_bytes {x = c / 4096 % 16} {y = c / 64 % 64} {z = c % 64} (omega arith) (omega arith) (omega arith) (rw e k)))
    (λ k.
    let b : c / 262144 % 8 ≡ c / 262144 = omega arith in
    let e : c / 262144 % 8 * 262144 + c / 4096 % 64 * 4096 + c / 64 % 64 * 64 + c % 64 ≡ c = rw b (omega arith) in
    rw e at (Utf8.four_bytes {x = c / 262144 % 8} {y = c / 4096 % 64} {z = c / 64 % 64} {w = c % 64} (omega arith) (omega arith) (omega arith) (omega arith) (rw e k)))

pub one_byte : (c : ℕ) → c < 128 → utf8 c ≡ c ∷ []
one_byte c h = by_utf8 (λ w. w ≡ c ∷ []) c (λ k. refl) (λ k l. absurd (omega arith)) (λ k l. absurd (omega arith)) (λ k. absurd (omega arith))

pub tail_bits : (x : ℕ) → x < 64 → tail_of (128 + x) ≡ x
unfolding tail_of
tail_bits x h = simp (le-ltb (128 + x) 128 (omega arith), lt-ltb (128 + x) 192 (omega arith)) (omega arith)

pub tail_byte : (b : ℕ) → tail_of b < 64 → b ≡ 128 + tail_of b
unfolding tail_of
tail_byte b = if_less (λ x. x < 64 → b ≡ 128 + x) b 128 (λ h k. absurd (omega arith)) (λ h. if_less (λ x. x < 64 → b ≡ 128 + x) b 192 (λ l k. omega arith) (λ l k. absurd (omega arith)))

pub joined2 : (c : ℕ) → 128 ≤ c → c < 2048 → seq2 (192 + c / 64 % 32) (c % 64) ≡ c
joined2 c lo hi = by_seq2 (λ s. s ≡ c) (192 + c / 64 % 32) (c % 64) (λ h. absurd (omega arith)) (λ h. absurd (omega arith)) (λ h k. omega arith)

pub joined3 : (c : ℕ) → 2048 ≤ c → c < 65536 → seq3 (224 + c / 4096 % 16) (c / 64 % 64) (c % 64) ≡ c
joined3 c lo hi =
    by_seq3 (λ s. s ≡ c) (224 + c / 4096 % 16) (c / 64 % 64) (c % 64) (λ h. absurd (omega arith)) (λ h. absurd (omega arith)) (λ h. absurd (omega arith)) (λ h k l. omega arith)

pub joined4 : (c : ℕ) → 65536 ≤ c → c ≤ 0x10FFFF → seq4 (240 + c / 262144 % 8) (c / 4096 % 64) (c / 64 % 64) (c % 64) ≡ c
joined4 c lo hi =
    let sum : (240 + c / 262144 % 8) % 8 * 262144 + c / 4096 % 64 * 4096 + c / 64 % 64 * 64 + c % 64 ≡ c = omega arith in
    by_seq4 (λ s. s ≡ c) (240 + c / 262144 % 8) (c / 4096 % 64) (c / 64 % 64) (c % 64) (λ h. absurd (omega arith)) (λ h. absurd (omega arith)) (λ h. absurd (omega arith))
    (λ h. absurd (not-le_of_lt (rw sum at h) lo)) (λ h k l m. sum)

-- ---- what was put together ----

-- the UTF-8 of a code point that is no ASCII
pub record Shown (c : ℕ) (w : List ℕ) : Type 0 where
  pub encoded : utf8 c ≡ w
  pub bytes : AllBelow 256 w
  pub large : 128 ≤ c

too_large : {A : Type 0} → Good 0x110000 → A
too_large g = let h = g.scalar.within_range in absurd (omega arith)

record Whole2 (b x s : ℕ) : Type 0 where
  first : x < 64
  least : 128 ≤ b % 32 * 64 + x
  large : 128 ≤ s

whole2 : (b x : ℕ) → Good (seq2 b x) → Whole2 b x (seq2 b x)
whole2 b x = by_seq2 (λ s. Good s → Whole2 b x s) b x (λ h g. too_large g) (λ h g. too_large g) (λ h k g. omega arith)

pub shown2 : (b b1 : ℕ) → 192 ≤ b → b < 224 → Good (seq2 b (tail_of b1)) → Shown (seq2 b (tail_of b1)) (b ∷ b1 ∷ [])
shown2 b b1 lo hi g =
    let w = whole2 b (tail_of b1) g in
    let p = tail_byte b1 w.first in
    record { encoded = two b (tail_of b1) lo hi w.first w.least ∙ (cc); bytes = omega arith; large = w.large }

record Whole3 (b x y s : ℕ) : Type 0 where
  first : x < 64
  second : y < 64
  least : 2048 ≤ b % 16 * 4096 + x * 64 + y
  large : 128 ≤ s

whole3 : (b x y : ℕ) → Good (seq3 b x y) → Whole3 b x y (seq3 b x y)
whole3 b x y = by_seq3 (λ s. Good s → Whole3 b x y s) b x y (λ h g. too_large g) (λ h g. too_large g) (λ h g. too_large g) (λ h k l g. omega arith)

record Whole4 (b x y z s : ℕ) : Type 0 where
  first : x < 64
  second : y < 64
  third : z < 64
  least : 65536 ≤ b % 8 * 262144 + x * 4096 + y * 64 + z
  large : 128 ≤ s

whole4 : (b x y z : ℕ) → Good (seq4 b x y z) → Whole4 b x y z (seq4 b x y z)
whole4 b x y z =
    by_seq4 (λ s. Good s → Whole4 b x y z s) b x y z (λ h g. too_large g) (λ h g. too_large g) (λ h g. too_large g) (λ h g. too_large g) (λ h k l m g. omega arith)

pub shown3 : (b b1 b2 : ℕ) → 224 ≤ b → b < 240 → Good (seq3 b (tail_of b1) (tail_of b2)) → Shown (seq3 b (tail_of b1) (tail_of b2)) (b ∷ b1 ∷ b2 ∷ [])
shown3 b b1 b2 lo hi g =
    let w = whole3 b (tail_of b1) (tail_of b2) g in
    let p = tail_byte b1 w.first in
    let q = tail_byte b2 w.second in
    record { encoded = three b (tail_of b1) (tail_of b2) lo hi w.first w.second w.least ∙ (cc); bytes = omega arith; large = w.large }

pub shown4 : (b b1 b2 b3 : ℕ) → 240 ≤ b → b < 248 → Good (seq4 b (tail_of b1) (tail_of b2) (tail_of b3))
    → Shown (seq4 b (tail_of b1) (tail_of b2) (tail_of b3)) (b ∷ b1 ∷ b2 ∷ b3 ∷ [])
shown4 b b1 b2 b3 lo hi g =
    let w = whole4 b (tail_of b1) (tail_of b2) (tail_of b3) g in
    let p = tail_byte b1 w.first in
    let q = tail_byte b2 w.second in
    let r = tail_byte b3 w.third in
    record { encoded = four b (tail_of b1) (tail_of b2) (tail_of b3) lo hi w.first w.second w.third w.least ∙ (cc); bytes = omega arith; large = w.large }
