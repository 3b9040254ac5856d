-- What holds of each element of a list, of some element, and of two that stand next to each other. Assumes nothing: these are definitions.
use Rattle.std.specs.Prelude.{List, [], ◌∷◌}

-- P holds of each element
pub data Each {A : Type 0} (P : A → Type 0) : List A → Type 0 where
  none : Each P []
  more : {x : A} {xs : List A} → P x → Each P xs → Each P (x ∷ xs)

-- P holds of some element
pub data Some {A : Type 0} (P : A → Type 0) : List A → Type 0 where
  here : {x : A} {xs : List A} → P x → Some P (x ∷ xs)
  later : {x : A} {xs : List A} → Some P xs → Some P (x ∷ xs)

-- P holds of two elements that stand next to each other
pub data Neighbours {A : Type 0} (P : A → Type 0) : List A → Type 0 where
  both : {x y : A} {xs : List A} → P x → P y → Neighbours P (x ∷ y ∷ xs)
  further : {x : A} {xs : List A} → Neighbours P xs → Neighbours P (x ∷ xs)
