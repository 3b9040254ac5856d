-- Laws of the order of pointers:
--     pointer-flip, pointer-eq, pointer-trans     Less and Greater are opposite, Equal is said of equals alone, and Less leads on
--     pointer-total                               so pointers sort
--     first-not-more, first-upto                  a pointer before another, or the same, has a first part before the other's or the same
--     less-apart                                  of two pointers that do not clash, one that is not Greater is Less
-- Assumes nothing.
use Rattle.std.specs.declared.cmp.Ordering.{Ordering}
use Rattle.std.specs.declared.cmp.Ordering.TheVariants.{Less, Equal, Greater}
use mathlib.Core.Path.{◌≡◌, refl, ap, sym, ◌∙◌}
use mathlib.Core.Logic.{◌⊎◌, inl, inr, ◌≢◌}
use mathlib.Core.Bool.{true, false}
use Prim.Native.Nat.{ℕ}
use native.Mathlib.Omega.{arith}
use Rattle.laws.specs.Order.{order_of, is_same}
use Rattle.laws.proofs.Orders.{flip, order_flip, order_trans, same_eq, same_refl}
use Rattle.laws.proofs.Sorting.{Total, total_by}
use Rattle.text.specs.Doc.{Name}
use Rattle.contact.specs.Pointer.{Pointer, last, down, first_part, clash}
use Rattle.pointers.specs.Pointers.{or_then, pointer_order}

-- ---- one order and then another

flip_then : (o a b : Ordering) → a ≡ flip b → or_then (flip o) a ≡ flip (or_then o b)
flip_then Less a b e = refl
flip_then Equal a b e = e
flip_then Greater a b e = refl

then_none : (o : Ordering) → or_then o Equal ≡ o
then_none Less = refl
then_none Equal = refl
then_none Greater = refl

then_same : (o a : Ordering) → or_then o a ≡ Equal → (o ≡ Equal) × (a ≡ Equal)
then_same Less a e = let z : ◌≡◌ {A = ℕ} 0 1 = cc in absurd (omega arith)
then_same Equal a e = (refl, e)
then_same Greater a e = let z : ◌≡◌ {A = ℕ} 0 1 = cc in absurd (omega arith)

then_less : (o a : Ordering) → or_then o a ≡ Less → (o ≡ Less) ⊎ ((o ≡ Equal) × (a ≡ Less))
then_less Less a e = inl refl
then_less Equal a e = inr (refl, e)
then_less Greater a e = let z : ◌≡◌ {A = ℕ} 0 1 = cc in absurd (omega arith)

-- ---- a pointer's first part, and then what follows it

behind : Pointer → Pointer → Ordering
behind (last n) (last m) = Equal
behind (last n) (down m q) = Less
behind (down n p) (last m) = Greater
behind (down n p) (down m q) = pointer_order p q

by_parts : (p q : Pointer) → pointer_order p q ≡ or_then (order_of (first_part p) (first_part q)) (behind p q)
unfolding pointer_order behind
by_parts (last n) (last m) = sym (then_none (order_of n m))
by_parts (last n) (down m q) = refl
by_parts (down n p) (last m) = refl
by_parts (down n p) (down m q) = refl

pub name_eq : (n m : Name) → order_of n m ≡ Equal → n ≡ m
name_eq n m e = same_eq n m (ap is_same e)

-- ---- an order

pub pointer_flip : (p q : Pointer) → pointer_order q p ≡ flip (pointer_order p q)
unfolding pointer_order
pointer_flip (last n) (last m) = order_flip n m
pointer_flip (last n) (down m q) = rw (order_flip n m) (flip_then (order_of n m) Greater Less refl)
pointer_flip (down n p) (last m) = rw (order_flip n m) (flip_then (order_of n m) Less Greater refl)
pointer_flip (down n p) (down m q) = rw (order_flip n m) (flip_then (order_of n m) (pointer_order q p) (pointer_order p q) (pointer_flip p q))

pub pointer_eq : (p q : Pointer) → pointer_order p q ≡ Equal → p ≡ q
unfolding pointer_order
pointer_eq (last n) (last m) e = ap last (name_eq n m e)
pointer_eq (last n) (down m q) e = let f = then_same (order_of n m) Less e in let z : ◌≡◌ {A = ℕ} 0 1 = cc in absurd (omega arith)
pointer_eq (down n p) (last m) e = let f = then_same (order_of n m) Greater e in let z : ◌≡◌ {A = ℕ} 0 1 = cc in absurd (omega arith)
pointer_eq (down n p) (down m q) e =
    let f = then_same (order_of n m) (pointer_order p q) e in
    let a : n ≡ m = name_eq n m f.0 in
    let b : p ≡ q = pointer_eq p q f.1 in
    cc

-- it leads on if what follows the first parts does
trans_by : (p q r : Pointer) → (behind p q ≡ Less → behind q r ≡ Less → behind p r ≡ Less) → pointer_order p q ≡ Less → pointer_order q r ≡ Less
    → pointer_order p r ≡ Less
trans_by p q r on e f =
    by_parts p r ∙ go (then_less (order_of n m) (behind p q) (sym (by_parts p q) ∙ e)) (then_less (order_of m l) (behind q r) (sym (by_parts q r) ∙ f))
  where
    n : Name
    n = first_part p

    m : Name
    m = first_part q

    l : Name
    l = first_part r

    go : (order_of n m ≡ Less) ⊎ ((order_of n m ≡ Equal) × (behind p q ≡ Less)) → (order_of m l ≡ Less) ⊎ ((order_of m l ≡ Equal) × (behind q r ≡ Less))
        → or_then (order_of n l) (behind p r) ≡ Less
    go (inl a) (inl b) = rw (order_trans n m l a b)
    go (inl a) (inr b) = rw (← name_eq m l b.0, a)
    go (inr a) (inl b) = rw (name_eq n m a.0, b)
    go (inr a) (inr b) = rw (name_eq n m a.0, b.0) (on a.1 b.1)

pub pointer_trans : (p q r : Pointer) → pointer_order p q ≡ Less → pointer_order q r ≡ Less → pointer_order p r ≡ Less
unfolding behind
pointer_trans (last n) (last m) r = trans_by (last n) (last m) r (λ a b. let z : ◌≡◌ {A = ℕ} 0 1 = cc in absurd (omega arith))
pointer_trans (last n) (down m q) (last l) = trans_by (last n) (down m q) (last l) (λ a b. let z : ◌≡◌ {A = ℕ} 0 1 = cc in absurd (omega arith))
pointer_trans (last n) (down m q) (down l r) = trans_by (last n) (down m q) (down l r) (λ a b. refl)
pointer_trans (down n p) (last m) r = trans_by (down n p) (last m) r (λ a b. let z : ◌≡◌ {A = ℕ} 0 1 = cc in absurd (omega arith))
pointer_trans (down n p) (down m q) (last l) = trans_by (down n p) (down m q) (last l) (λ a b. let z : ◌≡◌ {A = ℕ} 0 1 = cc in absurd (omega arith))
pointer_trans (down n p) (down m q) (down l r) = trans_by (down n p) (down m q) (down l r) (λ a b. pointer_trans p q r a b)

pub pointer_total : Total pointer_order
pointer_total = total_by pointer_order pointer_flip pointer_eq pointer_trans

-- ---- first parts and clashes

pub first_not_more : (p q : Pointer) → pointer_order p q ≢ Greater → order_of (first_part p) (first_part q) ≢ Greater
first_not_more p q h e = h (by_parts p q ∙ ap (λ (o : Ordering). or_then o (behind p q)) e)

pub first_upto : (p q : Pointer) → pointer_order p q ≡ Less → order_of (first_part p) (first_part q) ≢ Greater
first_upto p q e = first_not_more p q (λ f. let z : ◌≡◌ {A = ℕ} 0 1 = cc in omega arith)

clash_self : (p : Pointer) → clash p p ≡ true
clash_self (last n) = same_refl n
clash_self (down n p) = rw (same_refl n) (clash_self p)

pub less_apart : (p q : Pointer) → pointer_order p q ≢ Greater → clash p q ≡ false → pointer_order p q ≡ Less
less_apart p q n c = go (pointer_order p q) refl
  where
    go : (o : Ordering) → pointer_order p q ≡ o → pointer_order p q ≡ Less
    go Less e = e
    go Equal e = let s : clash p q ≡ true = rw (← pointer_eq p q e) (clash_self p) in let z : ◌≡◌ {A = ℕ} 0 1 = cc in absurd (omega arith)
    go Greater e = absurd (n e)
