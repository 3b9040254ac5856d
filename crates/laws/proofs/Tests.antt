-- A test on every element decides what holds of each: `each_test`. Assumes nothing.
use mathlib.Core.Bool.{Bool}
use mathlib.Core.List.{List, [], ◌∷◌}
use Rattle.laws.specs.Each.{Each, none, more}
use Rattle.laws.specs.Tests.{every}
use Rattle.laws.proofs.Decides.{Decides, holds, swap, lets}

module _ {A : Type 0} {P : A → Type 0} (is : A → Bool) (test : (x : A) → Decides (P x) (is x)) where
  pub each_test : (xs : List A) → Decides (Each P xs) (every is xs)
  unfolding every
  each_test [] = holds none
  each_test (x ∷ xs) = swap (λ h. more h.0 h.1) parts (lets (test x) (each_test xs))
    where
      parts : Each P (x ∷ xs) → P x × Each P xs
      parts (more p ps) = (p, ps)
