-- `card::catalog::sized_word` meets its contract. Assumes nothing.
use Prim.Native.Nat.{ℕ, ◌+◌, ◌-◌}
use mathlib.Core.Path.{◌≡◌}
use native.Mathlib.Omega.{arith}
use Rattle.card.proofs.catalog.sized_word.Goals as goal

add_sub : (a n : ℕ) → a + n - a ≡ n
add_sub a n = omega arith

pub returns : goal.returns
returns c = rw add_sub
