-- How many bytes names begin with alike, as written. That it is the most, nothing asks. Assumes nothing: these are definitions.
use Rattle.std.specs.Prelude.{ℕ, ◌+◌, ◌≤◌, ◌<◌, ◌≡◌, List, length, get_or}
use Rattle.text.specs.Text.{byte_at}

-- the k bytes from a on stand for themselves: no quote, no backslash, not the end; they are no more than the text has
pub record PlainRun (t : List ℕ) (a k : ℕ) : Type 0 where
  pub no_quote : (j : ℕ) → j < k → byte_at t (a + j) ≡ 34 → ⊥
  pub no_escape : (j : ℕ) → j < k → byte_at t (a + j) ≡ 92 → ⊥
  pub no_end : (j : ℕ) → j < k → byte_at t (a + j) ≡ 256 → ⊥
  pub inside : k ≤ length t

-- the k bytes from b on are those from a on, and k is at most `most`
pub record AgreeRun (t : List ℕ) (a b most k : ℕ) : Type 0 where
  pub few : k ≤ most
  pub alike : (j : ℕ) → j < k → byte_at t (b + j) ≡ byte_at t (a + j)

-- the names of the words lo up to hi all begin with the k bytes that the first begins with
pub record Begin (t places : List ℕ) (lo hi k : ℕ) : Type 0 where
  pub plain : PlainRun t (get_or places lo 0 + 1) k
  pub all : (i : ℕ) → lo ≤ i → i < hi → (j : ℕ) → j < k → byte_at t (get_or places i 0 + 1 + j) ≡ byte_at t (get_or places lo 0 + 1 + j)
