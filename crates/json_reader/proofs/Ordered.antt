-- The order of two runs of bytes, as the library's comparison of two iterators finds it:
--     ordered           `order_of` is the library's order of two lists
--     is_same_equal     the order of two that are the same is the library's `Equal`
-- Assumes nothing.
use Rattle.std.specs.declared.cmp.Ordering.{Ordering}
use Rattle.std.specs.declared.cmp.Ordering.TheVariants.{Less, Equal, Greater}
use mathlib.Core.Path.{◌≡◌, refl, sym, ap, ◌∙◌}
use mathlib.Core.List.{List, [], ◌∷◌}
use Prim.Native.Nat.{ℕ, ◌<◌}
use native.Mathlib.Omega.{arith}
use Rattle.std.specs.Cmp.Lexicographic.{slice_cmp}
use Rattle.std.specs.Ordering.{nat_cmp, ordering_then, is_eq, MatchOrdering}
use Rattle.std.proofs.lemmas.Cmp.{ranked}
use Rattle.laws.specs.Order.{order_of, is_same}
use Rattle.laws.proofs.Orders.{order_less, order_more, order_on}

-- the first two bytes decide, or what follows them does
heads : (x y : ℕ) (xs ys : List ℕ) (r : Ordering) → MatchOrdering r (x < y) (x ≡ y) (y < x) → order_of (x ∷ xs) (y ∷ ys) ≡ ordering_then r (order_of xs ys)
heads x y xs ys Less h = order_less x y xs ys h
heads x y xs ys Equal h = order_on x y xs ys (omega arith) (omega arith)
heads x y xs ys Greater h = order_more x y xs ys h

pub ordered : (xs ys : List ℕ) → slice_cmp nat_cmp xs ys ≡ order_of xs ys
unfolding order_of
ordered [] [] = refl
ordered [] (y ∷ ys) = refl
ordered (x ∷ xs) [] = refl
ordered (x ∷ xs) (y ∷ ys) = ap (ordering_then (nat_cmp x y)) (ordered xs ys) ∙ sym (heads x y xs ys (nat_cmp x y) (ranked x y (nat_cmp x y) refl))

pub is_same_equal : (o : Ordering) → is_eq o ≡ is_same o
is_same_equal Less = refl
is_same_equal Equal = refl
is_same_equal Greater = refl
