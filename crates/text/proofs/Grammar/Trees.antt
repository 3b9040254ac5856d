-- Laws of trees and of where values stand in them:
--     join-assoc, size-join, depth-join       values and then others
--     in_left, in_right, in-join              where a value stands among some values and then others
--     in-deep, in-few, in-from, in-none       it stands no deeper and after no more values than there are, and nothing stands among no values
-- Assumes nothing.
use mathlib.Core.Path.{◌≡◌, refl, sym, ap, subst}
use mathlib.Core.Bool.{true, false}
use Prim.Native.Nat.{◌+◌, ◌≤◌, ◌<◌, max}
use native.Mathlib.Omega.{arith}
use Rattle.text.specs.Tree.{Forest, none, leaf, node, size, join}
use Rattle.text.specs.Grammar.{depth_of}
use Rattle.text.specs.Seats.{Head, Seat, behind, Sits}
use Rattle.text.proofs.Grammar.Stands.{clash}

pub join_assoc : (f g h : Forest) → join (join f g) h ≡ join f (join g h)
unfolding join
join_assoc none g h = refl
join_assoc (leaf kind ns ne from to rest) g h = ap (leaf kind ns ne from to) (join_assoc rest g h)
join_assoc (node b ns ne from to inner rest) g h = ap (node b ns ne from to inner) (join_assoc rest g h)

pub join_none : (f : Forest) → join f none ≡ f
unfolding join
join_none none = refl
join_none (leaf kind ns ne from to rest) = ap (leaf kind ns ne from to) (join_none rest)
join_none (node b ns ne from to inner rest) = ap (node b ns ne from to inner) (join_none rest)

pub size_join : (f g : Forest) → size (join f g) ≡ size f + size g
unfolding size join
size_join none g = omega arith
size_join (leaf kind ns ne from to rest) g = let h = size_join rest g in omega arith
size_join (node b ns ne from to inner rest) g = let h = size_join rest g in omega arith

pub depth_join : (f g : Forest) → depth_of (join f g) ≡ max (depth_of f) (depth_of g)
unfolding depth_of join
depth_join none g = omega arith
depth_join (leaf kind ns ne from to rest) g = depth_join rest g
depth_join (node b ns ne from to inner rest) g = let h = depth_join rest g in omega arith

-- ---- where values stand ----

same_seat : (c d : Seat) → c.inside ≡ d.inside → c.after ≡ d.after → c.beside ≡ d.beside → c ≡ d
same_seat c d p q r = λ i. record { inside = p i; after = q i; beside = r i }

pub behind_none : (c : Seat) → behind c none ≡ c
unfolding size
behind_none c = same_seat (behind c none) c refl (omega arith) (join_none c.beside)

pub behind_join : (c : Seat) (f g : Forest) → behind (behind c f) g ≡ behind c (join f g)
behind_join c f g = same_seat (behind (behind c f) g) (behind c (join f g)) refl (omega (arith, size_join f g)) (join_assoc c.beside f g)

pub in_left : {c d : Seat} {h : Head} {f : Forest} (g : Forest) → Sits c f d h → Sits c (join f g) d h
unfolding join
in_left g Sits.leaf_here = Sits.leaf_here
in_left g Sits.node_here = Sits.node_here
in_left g (Sits.into i) = Sits.into i
in_left g (Sits.leaf_on i) = Sits.leaf_on (in_left g i)
in_left g (Sits.node_on i) = Sits.node_on (in_left g i)

pub in_right : {c d : Seat} {h : Head} (f : Forest) {g : Forest} → Sits (behind c f) g d h → Sits c (join f g) d h
unfolding join
in_right {c} {d} {h} none {g} i = subst (λ (a : Seat). Sits a g d h) (behind_none c) i
in_right {c} {d} {h} (leaf kind ns ne from to rest) {g} i =
    Sits.leaf_on (in_right {c = behind c (leaf kind ns ne from to none)} rest (subst (λ (a : Seat). Sits a g d h) (sym (behind_join c (leaf kind ns ne from to none) rest)) i))
in_right {c} {d} {h} (node b ns ne from to inner rest) {g} i =
    Sits.node_on (in_right {c = behind c (node b ns ne from to inner none)} rest (subst (λ (a : Seat). Sits a g d h) (sym (behind_join c (node b ns ne from to inner none) rest)) i))

-- the other way: among the first ones, or among the others
pub data EitherOf (c : Seat) (f g : Forest) (d : Seat) (h : Head) : Type 0 where
  first : Sits c f d h → EitherOf c f g d h
  later : Sits (behind c f) g d h → EitherOf c f g d h

pub in_join : {c d : Seat} {h : Head} (f g : Forest) → Sits c (join f g) d h → EitherOf c f g d h
unfolding join
in_join {c} {d} {h} none g i = later (subst (λ (a : Seat). Sits a g d h) (sym (behind_none c)) i)
in_join (leaf kind ns ne from to rest) g Sits.leaf_here = first Sits.leaf_here
in_join {c} {d} {h} (leaf kind ns ne from to rest) g (Sits.leaf_on i) = go (in_join {c = behind c (leaf kind ns ne from to none)} rest g i)
  where
    go : EitherOf (behind c (leaf kind ns ne from to none)) rest g d h → EitherOf c (leaf kind ns ne from to rest) g d h
    go (first j) = first (Sits.leaf_on j)
    go (later j) = later (subst (λ (a : Seat). Sits a g d h) (behind_join c (leaf kind ns ne from to none) rest) j)
in_join (node b ns ne from to inner rest) g Sits.node_here = first Sits.node_here
in_join (node b ns ne from to inner rest) g (Sits.into i) = first (Sits.into i)
in_join {c} {d} {h} (node b ns ne from to inner rest) g (Sits.node_on i) = go (in_join {c = behind c (node b ns ne from to inner none)} rest g i)
  where
    go : EitherOf (behind c (node b ns ne from to inner none)) rest g d h → EitherOf c (node b ns ne from to inner rest) g d h
    go (first j) = first (Sits.node_on j)
    go (later j) = later (subst (λ (a : Seat). Sits a g d h) (behind_join c (node b ns ne from to inner none) rest) j)

pub in_deep : {c d : Seat} {h : Head} {f : Forest} → Sits c f d h → h.holds ≡ true → d.inside < c.inside + depth_of f
unfolding depth_of
in_deep Sits.leaf_here o = clash false o refl
in_deep Sits.node_here o = omega arith
in_deep (Sits.into i) o = omega (arith, in_deep i o)
in_deep (Sits.leaf_on i) o = in_deep i o
in_deep (Sits.node_on i) o = omega (arith, in_deep i o)

pub in_few : {c d : Seat} {h : Head} {f : Forest} → Sits c f d h → d.after < c.after + size f
unfolding size
in_few Sits.leaf_here = omega arith
in_few Sits.node_here = omega arith
in_few (Sits.into i) = omega (arith, in_few i)
in_few (Sits.leaf_on i) = omega (arith, in_few i)
in_few (Sits.node_on i) = omega (arith, in_few i)

pub in_from : {c d : Seat} {h : Head} {f : Forest} → Sits c f d h → c.after ≤ d.after
in_from Sits.leaf_here = omega arith
in_from Sits.node_here = omega arith
in_from (Sits.into i) = omega (arith, in_from i)
in_from (Sits.leaf_on i) = omega (arith, in_from i)
in_from (Sits.node_on i) = omega (arith, in_from i)

pub in_none : {A : Type 0} {c d : Seat} {h : Head} → Sits c none d h → A
unfolding size
in_none i = absurd (omega (arith, in_few i, in_from i))
