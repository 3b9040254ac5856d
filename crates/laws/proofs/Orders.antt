-- Laws of the order of bytes:
--     order-refl, same-eq, eq-same   `same` is true where the two are equal, and only there
--     agree, differ, absent          `same` of two runs whose first bytes agree, or differ
--     same_refl, same-sym, same-trans          `same` is an equivalence
--     order_flip, order_trans        the order the other way round; from the first over the second to the third
--     before-irrefl, before-asym, before-trans, one_of_three     `before` is a strict and total order
--     before-earlier                 and it is the byte order that the rules of `Earlier` state
-- Assumes nothing.
use Rattle.std.specs.declared.cmp.Ordering.{Ordering}
use Rattle.std.specs.declared.cmp.Ordering.TheVariants.{Less, Equal, Greater}
use mathlib.Core.Path.{◌≡◌, refl, sym, ap, ◌∙◌}
use mathlib.Core.List.{List, [], ◌∷◌}
use mathlib.Core.Bool.{Bool, true, false}
use mathlib.Core.Logic.{◌↔◌, ◌⊎◌, inl, inr}
use Prim.Native.Nat.{ℕ, ◌+◌, ◌≤◌, ◌<◌}
use native.Mathlib.Decide.{dec_le, dec_lt}
use native.Mathlib.Omega.{arith}
use lib.ListN.{length, get_or, drop, drop_of_length-le}
use borrow.Author.Tests.{lt-ltb, le-ltb}
use Rattle.laws.specs.Order.{order_of, is_same, is_less, same, before, Earlier, begins, smaller, equal}
use Rattle.laws.proofs.Places.{drop_byte}

-- ---- the order at a pair of first bytes ----

pub order_less : (x y : ℕ) (xs ys : List ℕ) → x < y → order_of (x ∷ xs) (y ∷ ys) ≡ Less
unfolding order_of
order_less x y xs ys h = simp (lt-ltb x y h)

pub order_more : (x y : ℕ) (xs ys : List ℕ) → y < x → order_of (x ∷ xs) (y ∷ ys) ≡ Greater
unfolding order_of
order_more x y xs ys h = simp (le-ltb x y (omega arith), lt-ltb y x h)

pub order_on : (x y : ℕ) (xs ys : List ℕ) → x ≤ y → y ≤ x → order_of (x ∷ xs) (y ∷ ys) ≡ order_of xs ys
unfolding order_of
order_on x y xs ys h k = simp (le-ltb x y k, le-ltb y x h)

pub agree : (x y : ℕ) (xs ys : List ℕ) → x ≡ y → same (x ∷ xs) (y ∷ ys) ≡ same xs ys
agree x y xs ys e = ap is_same (order_on x y xs ys (omega arith) (omega arith))

pub differ : (x y : ℕ) (xs ys : List ℕ) → (x ≡ y → ⊥) → same (x ∷ xs) (y ∷ ys) ≡ false
differ x y xs ys h = elim (dec_lt x y) [
  | yes k ↦ ap is_same (order_less x y xs ys k)
  | no k ↦ ap is_same (order_more x y xs ys (omega arith))
]

-- a byte that does not stand at the place i of a list: what begins with it is not the list from there on
pub absent : (l : List ℕ) (i x : ℕ) (xs : List ℕ) → (x ≡ get_or l i 256 → ⊥) → same (x ∷ xs) (drop i l) ≡ false
unfolding order_of
absent l i x xs ne = elim (dec_le (length l) i) [
  | yes h ↦ rw (drop_of_length-le l h)
  | no h ↦ rw (drop_byte l i (omega arith)) (differ x (get_or l i 256) xs (drop (i + 1) l) ne)
]

-- ---- same is equality ----

pub order_refl : (xs : List ℕ) → order_of xs xs ≡ Equal
unfolding order_of
order_refl [] = refl
order_refl (x ∷ xs) = order_on x x xs xs (omega arith) (omega arith) ∙ order_refl xs

pub eq_same : (xs ys : List ℕ) → xs ≡ ys → same xs ys ≡ true
eq_same xs ys e = rw (← e, order_refl xs)

order_eq : (xs ys : List ℕ) → order_of xs ys ≡ Equal → xs ≡ ys
unfolding order_of
order_eq [] [] e = refl
order_eq [] (y ∷ ys) e = let z : ◌≡◌ {A = ℕ} 0 1 = cc in absurd (omega arith)
order_eq (x ∷ xs) [] e = let z : ◌≡◌ {A = ℕ} 0 1 = cc in absurd (omega arith)
order_eq (x ∷ xs) (y ∷ ys) e = elim (dec_lt x y) [
  | yes k ↦ let d : order_of (x ∷ xs) (y ∷ ys) ≡ Less = order_less x y xs ys k in let z : ◌≡◌ {A = ℕ} 0 1 = cc in absurd (omega arith)
  | no k ↦ elim (dec_lt y x) [
    | yes l ↦ let d : order_of (x ∷ xs) (y ∷ ys) ≡ Greater = order_more x y xs ys l in let z : ◌≡◌ {A = ℕ} 0 1 = cc in absurd (omega arith)
    | no l ↦ let h : x ≡ y = omega arith in let r : xs ≡ ys = order_eq xs ys (sym (order_on x y xs ys (omega arith) (omega arith)) ∙ e) in cc
  ]
]

is_same_lem : (o : Ordering) → is_same o ≡ true → o ≡ Equal
is_same_lem Less e = let z : ◌≡◌ {A = ℕ} 0 1 = cc in absurd (omega arith)
is_same_lem Equal e = refl
is_same_lem Greater e = let z : ◌≡◌ {A = ℕ} 0 1 = cc in absurd (omega arith)

pub same_eq : (xs ys : List ℕ) → same xs ys ≡ true → xs ≡ ys
same_eq xs ys e = order_eq xs ys (is_same_lem (order_of xs ys) e)

-- ---- same is an equivalence ----

pub same_refl : (xs : List ℕ) → same xs xs ≡ true
same_refl xs = ap is_same (order_refl xs)

-- an order the other way round
abbrev pub flip : Ordering → Ordering
flip Less = Greater
flip Equal = Equal
flip Greater = Less

pub order_flip : (xs ys : List ℕ) → order_of ys xs ≡ flip (order_of xs ys)
unfolding order_of
order_flip [] [] = refl
order_flip [] (y ∷ ys) = refl
order_flip (x ∷ xs) [] = refl
order_flip (x ∷ xs) (y ∷ ys) = elim (dec_lt x y) [
  | yes k ↦ order_more y x ys xs k ∙ ap flip (sym (order_less x y xs ys k))
  | no k ↦ elim (dec_lt y x) [
    | yes l ↦ order_less y x ys xs l ∙ ap flip (sym (order_more x y xs ys l))
    | no l ↦ order_on y x ys xs (omega arith) (omega arith) ∙ order_flip xs ys ∙ ap flip (sym (order_on x y xs ys (omega arith) (omega arith)))
  ]
]

flip_same : (o : Ordering) → is_same (flip o) ≡ is_same o
flip_same Less = refl
flip_same Equal = refl
flip_same Greater = refl

pub same_sym : (xs ys : List ℕ) → same ys xs ≡ same xs ys
same_sym xs ys = ap is_same (order_flip xs ys) ∙ flip_same (order_of xs ys)

pub same_trans : (xs ys zs : List ℕ) → same xs ys ≡ true → same ys zs ≡ true → same xs zs ≡ true
same_trans xs ys zs p q = eq_same xs zs (same_eq xs ys p ∙ same_eq ys zs q)

-- ---- before is a strict and total order ----

-- the first bytes decide, or they agree and the rest does
first_less : (x y : ℕ) (xs ys : List ℕ) → order_of (x ∷ xs) (y ∷ ys) ≡ Less → (x < y) ⊎ ((x ≡ y) × (order_of xs ys ≡ Less))
first_less x y xs ys e = elim (dec_lt x y) [
  | yes k ↦ inl k
  | no k ↦ elim (dec_lt y x) [
    | yes l ↦ let d : order_of (x ∷ xs) (y ∷ ys) ≡ Greater = order_more x y xs ys l in let z : ◌≡◌ {A = ℕ} 0 1 = cc in absurd (omega arith)
    | no l ↦ inr (omega arith, sym (order_on x y xs ys (omega arith) (omega arith)) ∙ e)
  ]
]

pub order_trans : (xs ys zs : List ℕ) → order_of xs ys ≡ Less → order_of ys zs ≡ Less → order_of xs zs ≡ Less
unfolding order_of
order_trans xs [] [] p q = let z : ◌≡◌ {A = ℕ} 0 1 = cc in absurd (omega arith)
order_trans [] [] (z ∷ zs) p q = refl
order_trans (x ∷ xs) [] (z ∷ zs) p q = let z : ◌≡◌ {A = ℕ} 0 1 = cc in absurd (omega arith)
order_trans xs (y ∷ ys) [] p q = let z : ◌≡◌ {A = ℕ} 0 1 = cc in absurd (omega arith)
order_trans [] (y ∷ ys) (z ∷ zs) p q = refl
order_trans (x ∷ xs) (y ∷ ys) (z ∷ zs) p q = go (first_less x y xs ys p) (first_less y z ys zs q) (λ a b. order_trans xs ys zs a b)
  where
    go : (x < y) ⊎ ((x ≡ y) × (order_of xs ys ≡ Less)) → (y < z) ⊎ ((y ≡ z) × (order_of ys zs ≡ Less))
        → (order_of xs ys ≡ Less → order_of ys zs ≡ Less → order_of xs zs ≡ Less) → order_of (x ∷ xs) (z ∷ zs) ≡ Less
    go (inl a) (inl b) later = order_less x z xs zs (omega arith)
    go (inl a) (inr b) later = order_less x z xs zs (omega arith)
    go (inr a) (inl b) later = order_less x z xs zs (omega arith)
    go (inr a) (inr b) later = order_on x z xs zs (omega arith) (omega arith) ∙ later a.1 b.1

is_less_lem : (o : Ordering) → is_less o ≡ true → o ≡ Less
is_less_lem Less e = refl
is_less_lem Equal e = let z : ◌≡◌ {A = ℕ} 0 1 = cc in absurd (omega arith)
is_less_lem Greater e = let z : ◌≡◌ {A = ℕ} 0 1 = cc in absurd (omega arith)

pub before_irrefl : (xs : List ℕ) → before xs xs ≡ false
before_irrefl xs = ap is_less (order_refl xs)

pub before_asym : (xs ys : List ℕ) → before xs ys ≡ true → before ys xs ≡ false
before_asym xs ys e = ap is_less (order_flip xs ys ∙ ap flip (is_less_lem (order_of xs ys) e))

pub before_trans : (xs ys zs : List ℕ) → before xs ys ≡ true → before ys zs ≡ true → before xs zs ≡ true
before_trans xs ys zs p q = ap is_less (order_trans xs ys zs (is_less_lem (order_of xs ys) p) (is_less_lem (order_of ys zs) q))

-- of three tests exactly one passes
pub data OneOf : Bool → Bool → Bool → Type 0 where
  first : OneOf true false false
  second : OneOf false true false
  third : OneOf false false true

one_outcome : (o : Ordering) → OneOf (is_less o) (is_same o) (is_less (flip o))
one_outcome Less = first
one_outcome Equal = second
one_outcome Greater = third

pub one_of_three : (xs ys : List ℕ) → OneOf (before xs ys) (same xs ys) (before ys xs)
one_of_three xs ys = rw (order_flip xs ys) (one_outcome (order_of xs ys))

-- ---- before is the order of the rules

less_earlier : (xs ys : List ℕ) → order_of xs ys ≡ Less → Earlier xs ys
unfolding order_of
less_earlier [] [] e = let z : ◌≡◌ {A = ℕ} 0 1 = cc in absurd (omega arith)
less_earlier [] (y ∷ ys) e = begins
less_earlier (x ∷ xs) [] e = let z : ◌≡◌ {A = ℕ} 0 1 = cc in absurd (omega arith)
less_earlier (x ∷ xs) (y ∷ ys) e = go (first_less x y xs ys e) (λ h. less_earlier xs ys h)
  where
    go : (x < y) ⊎ ((x ≡ y) × (order_of xs ys ≡ Less)) → (order_of xs ys ≡ Less → Earlier xs ys) → Earlier (x ∷ xs) (y ∷ ys)
    go (inl a) later = smaller a
    go (inr a) later = rw a.0 (equal (later a.1))

earlier_less : {xs ys : List ℕ} → Earlier xs ys → order_of xs ys ≡ Less
unfolding order_of
earlier_less begins = refl
earlier_less (smaller {x} {y} {xs} {ys} h) = order_less x y xs ys h
earlier_less (equal {x} {xs} {ys} r) = order_on x x xs ys (omega arith) (omega arith) ∙ earlier_less r

-- theorem: of two runs of bytes `before` tells the one that comes earlier
pub before_earlier : (xs ys : List ℕ) → (before xs ys ≡ true) ↔ Earlier xs ys
before_earlier xs ys = (λ e. less_earlier xs ys (is_less_lem (order_of xs ys) e), λ r. ap is_less (earlier_less r))
