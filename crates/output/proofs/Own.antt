-- A byte that needs no escape is written as it is (`own_byte`). Assumes nothing.
use mathlib.Core.Path.{◌≡◌}
use mathlib.Core.List.{[], ◌∷◌}
use Prim.Native.Nat.{ℕ, ◌≤◌, ◌<◌}
use native.Mathlib.Omega.{arith}
use borrow.Author.Tests.{le-ltb, ne_eqb}
use Rattle.text.specs.Writing.{spelled_byte}

pub own_byte : (b : ℕ) → 32 ≤ b → (b ≡ 34 → ⊥) → (b ≡ 92 → ⊥) → spelled_byte b ≡ b ∷ []
own_byte b low quote slash =
    let not : (c : ℕ) → c < 32 → b ≡ c → ⊥ = λ c h e. omega arith in
    rw (
      ne_eqb b 34 quote,
      ne_eqb b 92 slash,
      ne_eqb b 8 (not 8 (omega arith)),
      ne_eqb b 9 (not 9 (omega arith)),
      ne_eqb b 10 (not 10 (omega arith)),
      ne_eqb b 12 (not 12 (omega arith)),
      ne_eqb b 13 (not 13 (omega arith)),
      le-ltb b 32 low,
    )
