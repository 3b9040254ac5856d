-- The walk of a survey has turns enough: so it has an equation of its own that names none, here by the ways that it goes:
--     survey-end, survey-torn, survey-twice, survey-on
--     walking_start, walking_on      the loop of the walk
-- Assumes nothing.
use Rattle.std.specs.Prelude.{Option, Some, None}
use mathlib.Core.Path.{◌≡◌, refl, sym, ap, ◌∙◌}
use mathlib.Core.List.{List}
use mathlib.Core.Bool.{true, false, cond}
use Prim.Native.Nat.{ℕ, zero, suc, ◌+◌, ◌-◌, ◌≤◌, ◌<◌}
use native.Mathlib.Omega.{arith}
use native.Mathlib.Decide.{dec_le}
use lib.ListN.{length}
use lib.Dec.{leb, ltb}
use borrow.Author.Tests.{le-leb, lt-leb, lt-ltb, le-ltb}
use Rattle.laws.proofs.Branches.{if_equal}
use Rattle.text.specs.Text.{byte_at}
use Rattle.fields.specs.Survey.{next_at, repeats_at, onward_at, values_at, survey_body, survey_for, survey_from}

module _ (p : List ℕ) where
  -- it goes three places further at least, and never past the field
  pub onward_later : (at : ℕ) → (at + 3 ≤ onward_at p at) × (onward_at p at ≤ next_at p at)
  unfolding onward_at
  onward_later at = if_equal P (byte_at p at) 7 (λ e. (omega arith, omega arith)) (λ n. if_equal P (byte_at p at) 6 (λ e. (omega arith, omega arith)) (λ m. (omega arith, omega arith)))
    where
      P : ℕ → Type 0
      P to = (at + 3 ≤ to) × (to ≤ next_at p at)

  pub values_most : (at : ℕ) → values_at p at ≤ 1
  unfolding values_at
  values_most at = if_equal (λ n. n ≤ 1) (byte_at p at) 8 (λ e. omega arith) (λ n. omega arith)

  body_later : (k l : ℕ → ℕ → Option ℕ) (at n : ℕ) → (at < length p → k (onward_at p at) (n + values_at p at) ≡ l (onward_at p at) (n + values_at p at))
      → survey_body p k at n ≡ survey_body p l at n
  body_later k l at n e = elim (dec_le (length p) at) [
    | yes h ↦ rw (le-leb (length p) at h)
    | no h ↦ ap (λ (r : Option ℕ). cond (leb (length p) at) (Some n) (cond (ltb (length p) (next_at p at)) None (cond (repeats_at p at) None r))) (e (omega arith))
  ]

  -- any two numbers of turns that suffice give the same
  enough : (f g at n : ℕ) → length p - at < f → length p - at < g → survey_for p f at n ≡ survey_for p g at n
  unfolding survey_for
  enough zero g at n h k = absurd (omega arith)
  enough (suc f) zero at n h k = absurd (omega arith)
  enough (suc f) (suc g) at n h k =
      body_later (λ to m. survey_for p f to m) (λ to m. survey_for p g to m) at n
      (λ l. let o = onward_later at in enough f g (onward_at p at) (n + values_at p at) (omega arith) (omega arith))

  survey_step : (at n : ℕ) → survey_from p at n ≡ survey_body p (λ to m. survey_from p to m) at n
  unfolding survey_from survey_for
  survey_step at n =
      body_later (λ to m. survey_for p (length p - at) to m) (λ to m. survey_from p to m) at n
      (λ l. let o = onward_later at in enough (length p - at) (suc (length p - onward_at p at)) (onward_at p at) (n + values_at p at) (omega arith) (omega arith))

  module _ (at n : ℕ) where
    pub survey_end : length p ≤ at → survey_from p at n ≡ Some n
    survey_end h = survey_step at n ∙ rw (le-leb (length p) at h)

    module _ (h : at < length p) where
      pub survey_torn : length p < next_at p at → survey_from p at n ≡ None
      survey_torn k = survey_step at n ∙ rw (lt-leb (length p) at h, lt-ltb (length p) (next_at p at) k)

      module _ (k : next_at p at ≤ length p) where
        pub survey_twice : repeats_at p at ≡ true → survey_from p at n ≡ None
        survey_twice e = survey_step at n ∙ rw (lt-leb (length p) at h, le-ltb (length p) (next_at p at) k, e)

        pub survey_on : repeats_at p at ≡ false → survey_from p at n ≡ survey_from p (onward_at p at) (n + values_at p at)
        survey_on e = survey_step at n ∙ rw (lt-leb (length p) at h, le-ltb (length p) (next_at p at) k, e)

-- ---- the loop

-- so far: what the walk says from here on is what it says from the start on, with no more values than bytes passed; the store and the scratch keep their
-- lengths
pub record Walking (p : List ℕ) (words spare : ℕ) (store scratch : List ℕ) (at n : ℕ) : Type 0 where
  pub store_long : length store ≡ words
  pub scratch_long : length scratch ≡ spare
  pub goes : survey_from p at n ≡ survey_from p 0 0
  pub few : n ≤ at
  pub inside : at ≤ length p

pub walking_start : (p store scratch : List ℕ) → Walking p (length store) (length scratch) store scratch 0 0
walking_start p store scratch = record { store_long = refl; scratch_long = refl; goes = refl; few = omega arith; inside = omega arith }

pub walking_on : {p : List ℕ} {words spare : ℕ} {store scratch : List ℕ} {at n : ℕ} → Walking p words spare store scratch at n
    → {store' scratch' : List ℕ} → length store' ≡ length store → length scratch' ≡ length scratch
    → at < length p → next_at p at ≤ length p → repeats_at p at ≡ false
    → (to m : ℕ) → to ≡ onward_at p at → m ≡ n + values_at p at → Walking p words spare store' scratch' to m
walking_on {p} {words} {spare} {store} {scratch} {at} {n} w e f h k r to m x y =
    let o = onward_later p at in
    let v = values_most p at in
    let l = w.few in
    record {
      store_long = e ∙ w.store_long;
      scratch_long = f ∙ w.scratch_long;
      goes = rw (x, y) (sym (survey_on p at n h k r) ∙ w.goes);
      few = omega arith;
      inside = omega arith;
    }
