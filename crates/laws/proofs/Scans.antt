-- A walk's own equation (`scan_step`): whatever is proved of a walk uses this law, and nothing else sees how often the walk may turn. Assumes nothing.
use mathlib.Core.Path.{◌≡◌}
use Prim.Native.Nat.{ℕ, zero, suc, ◌-◌, ◌≤◌, ◌<◌}
use native.Mathlib.Decide.{dec_le}
use native.Mathlib.Omega.{arith}
use Rattle.laws.specs.Scan.{scan_for, scan}

module _ {A : Type 0} (body : (ℕ → A) → ℕ → A) (d : A) (n : ℕ)
    (later : (k l : ℕ → A) (i : ℕ) → ((j : ℕ) → i < j → k j ≡ l j) → body k i ≡ body l i)
    (stops : (k l : ℕ → A) (i : ℕ) → n ≤ i → body k i ≡ body l i) where
  -- any two numbers of turns that suffice give the same
  enough : (f g i : ℕ) → n - i < f → n - i < g → scan_for body d f i ≡ scan_for body d g i
  unfolding scan_for
  enough zero g i hf hg = absurd (omega arith)
  enough (suc f) zero i hf hg = absurd (omega arith)
  enough (suc f) (suc g) i hf hg =
      elim (dec_le n i) [
        | yes h ↦ stops (scan_for body d f) (scan_for body d g) i h
        | no h ↦ later (scan_for body d f) (scan_for body d g) i (λ j lt. enough f g j (omega arith) (omega arith))
      ]

  pub scan_step : (i : ℕ) → scan body d n i ≡ body (scan body d n) i
  unfolding scan scan_for
  scan_step i =
      elim (dec_le n i) [
        | yes h ↦ stops (scan_for body d (n - i)) (scan body d n) i h
        | no h ↦ later (scan_for body d (n - i)) (scan body d n) i (λ j lt. enough (n - i) (suc (n - j)) j (omega arith) (omega arith))
      ]
