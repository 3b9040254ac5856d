-- Which numbers divide which. Assumes nothing: these are definitions.
use Rattle.std.specs.Prelude.{ℕ, ◌*◌, ◌≡◌}

-- m is a multiple of n
pub record Divides (n m : ℕ) : Type 0 where
  pub times : ℕ
  pub is : m ≡ n * times
