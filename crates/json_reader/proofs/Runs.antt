-- The loop over a run of bytes that pass a test: what holds at its head, what a turn gives, and where it ends. Assumes nothing.
use mathlib.Core.Path.{◌≡◌, sym, ◌∙◌}
use mathlib.Core.List.{List}
use mathlib.Core.Bool.{Bool, true, false}
use Prim.Native.Nat.{ℕ, ◌+◌, ◌<◌}
use lib.ListN.{length}
use Rattle.text.specs.Text.{byte_at}
use Rattle.text.specs.Tokens.{run_end}
use Rattle.text.proofs.TokenEnds.{run_on_lem, run_end_lem, run_byte}

-- the run from `at` on ends where that from `from` on ends
pub record Along (is : ℕ → Bool) (t : List ℕ) (from at : ℕ) : Type 0 where
  pub ends : run_end is t at ≡ run_end is t from

-- a byte of the run stands at `at`
pub record Turn (is : ℕ → Bool) (t : List ℕ) (from at : ℕ) : Type 0 where
  pub within : at < length t
  pub again : Along is t from (at + 1)

-- b is the answer of the code's test
module _ {is : ℕ → Bool} (no : is 256 ≡ false) {t : List ℕ} {from at : ℕ} (u : Along is t from at) {b : Bool} (e : b ≡ is (byte_at t at)) where
  pub run_turn : b ≡ true → Turn is t from at
  run_turn h =
      let found = sym e ∙ h in
      record { within = run_byte is t no at found; again = record { ends = sym (run_on_lem is t no at found) ∙ u.ends } }

  pub run_over : b ≡ false → at ≡ run_end is t from
  run_over h = sym (run_end_lem is t no at (sym e ∙ h)) ∙ u.ends
