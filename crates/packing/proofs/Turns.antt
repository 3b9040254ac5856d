-- A walk over fields has turns enough: so it has an equation of its own that names none (`items_step`), which a loop's invariant uses.
-- Assumes nothing.
use mathlib.Core.Path.{◌≡◌, refl, ap}
use mathlib.Core.List.{List, [], ◌∷◌}
use mathlib.Core.Option.{Option}
use Prim.Native.Nat.{ℕ, zero, suc, ◌+◌, ◌*◌, ◌≤◌, ◌<◌}
use native.Mathlib.Omega.{arith}
use lib.ListN.{length, length-drop}
use Rattle.laws.proofs.Branches.{if_most}
use Rattle.text.specs.Tree.{Bracket, square, curly}
use Rattle.text.specs.Doc.{Name, Members}
use Rattle.text.specs.Writing.{spelled}
use Rattle.packing.specs.Fields.{Cut, torn, field, cut}
use Rattle.packing.specs.Unpacked.{joined, ValueReader, on_value, on_name, on_item, unless_ended, items_of}

-- ---- what follows a field is shorter

abbrev pub Shorter : List ℕ → Cut → Type 0
Shorter p torn = Prim.Unit {0}
Shorter p (field tag content rest) = length rest < length p

pub cut_shorter : (p : List ℕ) → Shorter p (cut p)
unfolding cut
cut_shorter [] = tt
cut_shorter (a ∷ []) = tt
cut_shorter (a ∷ b ∷ []) = tt
cut_shorter (a ∷ b ∷ c ∷ w) =
    if_most (Shorter (a ∷ b ∷ c ∷ w)) (b * 256 + c) (length w) (λ h. omega (arith, length-drop (b * 256 + c) w)) (λ h. tt)

-- ---- the items of a container

module _ (value : ValueReader) (k l : List ℕ → Option Members) where
  value_later : (n : Name) (label p : List ℕ) → ((r : List ℕ) → length r < length p → k r ≡ l r) → (c : Cut) → Shorter p c
      → on_value value k n label c ≡ on_value value l n label c
  value_later n label p e torn h = refl
  value_later n label p e (field tag content rest) h = ap (joined n label (value tag content)) (e rest h)

  name_later : (p : List ℕ) → ((r : List ℕ) → length r < length p → k r ≡ l r) → (c : Cut) → Shorter p c → on_name value k c ≡ on_name value l c
  unfolding on_name
  name_later p e torn h = refl
  name_later p e (field tag name rest) h =
      rw (value_later name (spelled name) rest (λ r s. e r (omega arith)) (cut rest) (cut_shorter rest))

  item_later : (b : Bracket) (p : List ℕ) → ((r : List ℕ) → length r < length p → k r ≡ l r) → on_item b value k (cut p) ≡ on_item b value l (cut p)
  item_later square p e = value_later [] [] p e (cut p) (cut_shorter p)
  item_later curly p e = name_later p e (cut p) (cut_shorter p)

-- any two numbers of turns that suffice give the same
items_enough : (b : Bracket) (value : ValueReader) (m n : ℕ) (p : List ℕ) → length p ≤ m → length p ≤ n → items_of b value m p ≡ items_of b value n p
unfolding items_of
items_enough b value zero zero p h k = refl
items_enough b value zero (suc n) [] h k = refl
items_enough b value zero (suc n) (x ∷ xs) h k = absurd (omega arith)
items_enough b value (suc m) zero [] h k = refl
items_enough b value (suc m) zero (x ∷ xs) h k = absurd (omega arith)
items_enough b value (suc m) (suc n) p h k =
    ap (λ (o : Option Members). unless_ended o p)
    (item_later value (λ r. items_of b value m r) (λ r. items_of b value n r) b p (λ r s. items_enough b value m n r (omega arith) (omega arith)))

-- the items that some fields say
abbrev pub items_in : Bracket → ValueReader → List ℕ → Option Members
items_in b value p = items_of b value (length p) p

-- theorem: at the end nothing, else one item and then those after it
pub items_step : (b : Bracket) (value : ValueReader) (p : List ℕ) → items_in b value p ≡ unless_ended (on_item b value (items_in b value) (cut p)) p
unfolding items_of
items_step b value [] = refl
items_step b value (x ∷ xs) =
    item_later value (λ r. items_of b value (length xs) r) (items_in b value) b (x ∷ xs) (λ r s. items_enough b value (length xs) (length r) r (omega arith) (omega arith))
