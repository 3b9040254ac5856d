-- Laws of two pointers that are compared part by part, by what follows the first part of each:
--     clash-differ, clash-left, clash-right, clash-on     one is a prefix of the other
--     order-first, order-ends, order-left, order-right, order-on    the order of pointers
--     strip-on                                             a pointer without its first parts
-- Assumes nothing.
use Rattle.std.specs.declared.cmp.Ordering.{Ordering}
use Rattle.std.specs.declared.cmp.Ordering.TheVariants.{Less, Equal, Greater}
use mathlib.Core.Path.{◌≡◌, refl, sym}
use mathlib.Core.Bool.{Bool, true, false, true≢false}
use mathlib.Core.List.{List}
use Prim.Native.Nat.{ℕ, zero, suc, ◌+◌, ◌<◌}
use native.Mathlib.Omega.{arith}
use native.Mathlib.Numerals.{add-one}
use lib.ListN.{length}
use Rattle.std.specs.Ordering.{is_ne}
use Rattle.laws.specs.Order.{order_of, same}
use Rattle.contact.specs.Pointer.{Pointer, last, down, first_part, parts, clash}
use Rattle.pointers.specs.Pointers.{pointer_order, strip}

abbrev First : Pointer → Pointer → Bool
First p q = same (first_part p) (first_part q)

pub clash_differ : (p q : Pointer) → First p q ≡ false → clash p q ≡ false
clash_differ (last n) (last m) e = e
clash_differ (last n) (down m q) e = e
clash_differ (down n p) (last m) e = e
clash_differ (down n p) (down m q) e = rw e

pub clash_left : (p q : Pointer) → p ≡ last (first_part p) → First p q ≡ true → clash p q ≡ true
clash_left (last n) (last m) l e = e
clash_left (last n) (down m q) l e = e
clash_left (down n p) q l e = let z : ◌≡◌ {A = ℕ} 0 1 = cc in absurd (omega arith)

pub clash_right : (p q : Pointer) → q ≡ last (first_part q) → First p q ≡ true → clash p q ≡ true
clash_right (last n) (last m) l e = e
clash_right (down n p) (last m) l e = e
clash_right p (down m q) l e = let z : ◌≡◌ {A = ℕ} 0 1 = cc in absurd (omega arith)

pub clash_on : (p q : Pointer) {p' q' : Pointer} → p ≡ down (first_part p) p' → q ≡ down (first_part q) q' → First p q ≡ true → clash p q ≡ clash p' q'
clash_on p q {p'} {q'} d g e = go p q (first_part p) (first_part q) d g e
  where
    go : (p q : Pointer) (n m : List ℕ) → p ≡ down n p' → q ≡ down m q' → same n m ≡ true → clash p q ≡ clash p' q'
    go p q n m d g e = rw (d, g, e)

-- ---- the order ----

pub order_first : (p q : Pointer) (o : Ordering) → order_of (first_part p) (first_part q) ≡ o → is_ne o ≡ true → pointer_order p q ≡ o
unfolding pointer_order
order_first p q Equal e n = absurd (true≢false (sym n))
order_first (last n) (last m) o e s = e
order_first (last n) (down m q) Less e s = rw e
order_first (last n) (down m q) Greater e s = rw e
order_first (down n p) (last m) Less e s = rw e
order_first (down n p) (last m) Greater e s = rw e
order_first (down n p) (down m q) Less e s = rw e
order_first (down n p) (down m q) Greater e s = rw e

pub tied : (o : Ordering) → is_ne o ≡ false → o ≡ Equal
tied Less n = absurd (true≢false n)
tied Equal n = refl
tied Greater n = absurd (true≢false n)

module _ (p q : Pointer) (e : order_of (first_part p) (first_part q) ≡ Equal) where
  pub order_ends : p ≡ last (first_part p) → q ≡ last (first_part q) → pointer_order p q ≡ Equal
  unfolding pointer_order
  order_ends l g = rw (l, g) e

  pub order_left : {q' : Pointer} → p ≡ last (first_part p) → q ≡ down (first_part q) q' → pointer_order p q ≡ Less
  unfolding pointer_order
  order_left l g = rw (l, g, e)

  pub order_right : {p' : Pointer} → p ≡ down (first_part p) p' → q ≡ last (first_part q) → pointer_order p q ≡ Greater
  unfolding pointer_order
  order_right l g = rw (l, g, e)

  pub order_on : {p' q' : Pointer} → p ≡ down (first_part p) p' → q ≡ down (first_part q) q' → pointer_order p q ≡ pointer_order p' q'
  unfolding pointer_order
  order_on l g = rw (l, g, e)

-- ---- fewer parts ----

-- the measure of a walk along a pointer
pub fewer : (p : Pointer) {q : Pointer} → p ≡ down (first_part p) q → length (parts q) < length (parts p)
fewer p d = rw d (omega arith)

pub strip_on : (k : ℕ) (p : Pointer) {n : List ℕ} {q : Pointer} → strip k p ≡ down n q → strip (k + 1) p ≡ q
unfolding strip
strip_on zero p e = rw e refl
strip_on (suc k) (last m) e = let z : ◌≡◌ {A = ℕ} 0 1 = cc in absurd (omega arith)
strip_on (suc k) (down m p) e = rw add-one (rw add-one at (strip_on k p e))
