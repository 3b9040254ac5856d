-- What the bits of a raw character of two to four bytes make: a code point too large for any text where a continuation byte lacks or a shorter
-- sequence would do (RFC 3629), and else their sum. P is what is said of it.
-- Assumes nothing.
use Prim.Native.Nat.{ℕ, ◌+◌, ◌*◌, ◌%◌, ◌≤◌, ◌<◌}
use Rattle.laws.proofs.Branches.{if_less}
use Rattle.text.specs.Chars.{seq2, seq3, seq4}

module _ (P : ℕ → Type 0) where
  pub by_seq2 : (b x : ℕ) → (63 < x → P 0x110000) → (b % 32 * 64 + x < 128 → P 0x110000) → (x ≤ 63 → 128 ≤ b % 32 * 64 + x → P (b % 32 * 64 + x))
      → P (seq2 b x)
  unfolding seq2
  by_seq2 b x lacks long whole = search (if_less P)

  pub by_seq3 : (b x y : ℕ) → (63 < x → P 0x110000) → (63 < y → P 0x110000) → (b % 16 * 4096 + x * 64 + y < 2048 → P 0x110000)
      → (x ≤ 63 → y ≤ 63 → 2048 ≤ b % 16 * 4096 + x * 64 + y → P (b % 16 * 4096 + x * 64 + y)) → P (seq3 b x y)
  unfolding seq3
  by_seq3 b x y lacks1 lacks2 long whole = search (if_less P)

  pub by_seq4 : (b x y z : ℕ) → (63 < x → P 0x110000) → (63 < y → P 0x110000) → (63 < z → P 0x110000)
      → (b % 8 * 262144 + x * 4096 + y * 64 + z < 65536 → P 0x110000)
      → (x ≤ 63 → y ≤ 63 → z ≤ 63 → 65536 ≤ b % 8 * 262144 + x * 4096 + y * 64 + z → P (b % 8 * 262144 + x * 4096 + y * 64 + z)) → P (seq4 b x y z)
  unfolding seq4
  by_seq4 b x y z lacks1 lacks2 lacks3 long whole = search (if_less P) depth 7
