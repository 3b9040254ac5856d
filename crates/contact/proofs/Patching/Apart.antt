-- Pointers that are apart, in words and by tests:
--     apart-iff                      neither is a prefix of the other
--     clash-apart, apart-clash       the test `clash` decides it
--     clash-iff                      the test is true if one is a prefix of the other, over whole parts, and only then
--     clear_apart                    a pointer that no entry names, enters or covers is apart from all
--     from-anyClash, to-anyClash, from-anyWalk   the tests over all entries
--     perm-anyClash                  the test in another order
-- Assumes nothing.
use mathlib.Core.Bool.{Bool, true, false, ◌||◌, true≢false}
use mathlib.Core.List.{List, [], ◌∷◌, ◌++◌, append-nil, head-eq_of_cons-eq, tail-eq_of_cons-eq}
use mathlib.Core.Logic.{◌↔◌, ◌⊎◌, inl, inr}
use mathlib.Core.Path.{◌≡◌, refl, sym, ap, ap₂, ◌∙◌}
use Rattle.laws.specs.Sorting.{Perm, stay, skip, swap, and_then}
use Rattle.laws.proofs.Bools.{by_test, or_false, both_false, swap_or}
use Rattle.laws.proofs.Orders.{same_eq}
use Rattle.text.specs.Doc.{Name, Doc}
use Rattle.contact.specs.Pointer.{Pointer, last, down, parts, clash}
use Rattle.contact.specs.Patch.{Entry, entry, Walk, arrives, in_array, no_object, walk, clash_with, any_clash, is_in_array, is_no_object, any_walk}
use Rattle.contact.specs.Entries.{Prefix, Names, Covers, Clear, Apart, ApartFrom, NoClash, ParentsThere}
use Rattle.contact.proofs.Patching.Names.{same_yes, same_no, by_name}
use Rattle.contact.proofs.Patching.Entries.{apart_sym}

-- ---- `Apart` in words

apart_not : (p q : Pointer) → Apart p q → ¬ Prefix p q
apart_not (last n) (last m) h x = h (sym (head-eq_of_cons-eq x.1))
apart_not (last n) (down m q) h x = h (sym (head-eq_of_cons-eq x.1))
apart_not (down n p) (last m) h x = h (sym (head-eq_of_cons-eq x.1))
apart_not (down n p) (down m q) h x = apart_not p q (h (sym (head-eq_of_cons-eq x.1))) (x.0, tail-eq_of_cons-eq x.1)

not_apart : (p q : Pointer) → ¬ Prefix p q → ¬ Prefix q p → Apart p q
not_apart (last n) (last m) f g = λ e. f ([], ap (λ (x : Name). x ∷ []) (sym e))
not_apart (last n) (down m q) f g = λ e. f (parts q, ap (λ (x : Name). x ∷ parts q) (sym e))
not_apart (down n p) (last m) f g = λ e. g (parts p, ap (λ (x : Name). x ∷ parts p) e)
not_apart (down n p) (down m q) f g =
    λ e. not_apart p q (λ x. f (x.0, ap₂ ◌∷◌ (sym e) x.1)) (λ x. g (x.0, ap₂ ◌∷◌ e x.1))

pub apart_iff : (p q : Pointer) → Apart p q ↔ ((¬ Prefix p q) × (¬ Prefix q p))
apart_iff p q = (λ h. (apart_not p q h, apart_not q p (apart_sym p q h)), λ h. not_apart p q h.0 h.1)

not_prefix : (p q : Pointer) → ¬ Names q p → ¬ Covers q p → ¬ Prefix q p
not_prefix p q a b x = go x.0 x.1
  where
    go : (r : List Name) → parts p ≡ parts q ++ r → ⊥
    go [] e = a (sym (e ∙ append-nil (parts q)))
    go (n ∷ r) e = b (n, r, e)

pub clear_apart : (p : Pointer) (es : List Entry) → Clear p es → ApartFrom p es
clear_apart p [] h = tt
clear_apart p (entry q c ∷ es) h =
    (not_apart p q (not_prefix q p (λ e. h.0 (sym e)) h.1) (not_prefix p q h.0 h.2), clear_apart p es h.3)

-- ---- the tests

pub clash_apart : (p q : Pointer) → clash p q ≡ false → Apart p q
clash_apart (last n) (last m) h = λ e. true≢false (sym (same_yes e) ∙ h)
clash_apart (last n) (down m q) h = λ e. true≢false (sym (same_yes e) ∙ h)
clash_apart (down n p) (last m) h = λ e. true≢false (sym (same_yes e) ∙ h)
clash_apart (down n p) (down m q) h = λ e. clash_apart p q (simp (same_yes e) at h)

pub apart_clash : (p q : Pointer) → Apart p q → clash p q ≡ false
apart_clash (last n) (last m) h = same_no h
apart_clash (last n) (down m q) h = same_no h
apart_clash (down n p) (last m) h = same_no h
apart_clash (down n p) (down m q) h =
    by_name n m (λ e. simp (same_yes e) (apart_clash p q (h e))) (λ ne. simp (same_no ne))

-- the test in words: the parts of the one are the first parts of the other
clash_prefix : (p q : Pointer) → clash p q ≡ true → Prefix p q ⊎ Prefix q p
clash_prefix (last n) (last m) h = inl ([], ap (λ (x : Name). x ∷ []) (sym (same_eq n m h)))
clash_prefix (last n) (down m q) h = inl (parts q, ap (λ (x : Name). x ∷ parts q) (sym (same_eq n m h)))
clash_prefix (down n p) (last m) h = inr (parts p, ap (λ (x : Name). x ∷ parts p) (same_eq n m h))
clash_prefix (down n p) (down m q) h =
    by_name n m
    (λ e. longer e (clash_prefix p q (simp (same_yes e) at h)))
    (λ ne. absurd (true≢false (sym (simp (same_no ne) at h))))
  where
    longer : n ≡ m → Prefix p q ⊎ Prefix q p → Prefix (down n p) (down m q) ⊎ Prefix (down m q) (down n p)
    longer e (inl x) = inl (x.0, ap₂ ◌∷◌ (sym e) x.1)
    longer e (inr x) = inr (x.0, ap₂ ◌∷◌ e x.1)

prefix_clash : (p q : Pointer) → Prefix p q ⊎ Prefix q p → clash p q ≡ true
prefix_clash p q x = by_test (clash p q) (λ b. b) (λ b. absurd (neither ((apart_iff p q).0 (clash_apart p q b)) x))
  where
    neither : (¬ Prefix p q) × (¬ Prefix q p) → Prefix p q ⊎ Prefix q p → ⊥
    neither h (inl y) = h.0 y
    neither h (inr y) = h.1 y

pub clash_iff : (p q : Pointer) → (clash p q ≡ true) ↔ (Prefix p q ⊎ Prefix q p)
clash_iff p q = (clash_prefix p q, prefix_clash p q)

from_clash_with : (p : Pointer) (es : List Entry) → clash_with p es ≡ false → ApartFrom p es
from_clash_with p [] h = tt
from_clash_with p (entry q c ∷ es) h =
    let x = or_false (clash p q) (clash_with p es) h in (clash_apart p q x.0, from_clash_with p es x.1)

to_clash_with : (p : Pointer) (es : List Entry) → ApartFrom p es → clash_with p es ≡ false
to_clash_with p [] h = refl
to_clash_with p (entry q c ∷ es) h = both_false (clash p q) (clash_with p es) (apart_clash p q h.0) (to_clash_with p es h.1)

pub from_any_clash : (es : List Entry) → any_clash es ≡ false → NoClash es
from_any_clash [] h = tt
from_any_clash (entry p c ∷ es) h =
    let x = or_false (clash_with p es) (any_clash es) h in (from_clash_with p es x.0, from_any_clash es x.1)

pub to_any_clash : (es : List Entry) → NoClash es → any_clash es ≡ false
to_any_clash [] h = refl
to_any_clash (entry p c ∷ es) h = both_false (clash_with p es) (any_clash es) (to_clash_with p es h.0) (to_any_clash es h.1)

arrived : (w : Walk) → is_in_array w ≡ false → is_no_object w ≡ false → w ≡ arrives
arrived arrives e f = refl
arrived in_array e f = absurd (true≢false e)
arrived no_object e f = absurd (true≢false f)

pub from_any_walk : (es : List Entry) (d : Doc) → any_walk is_in_array es d ≡ false → any_walk is_no_object es d ≡ false → ParentsThere es d
from_any_walk [] d h k = tt
from_any_walk (entry p c ∷ es) d h k =
    let x = or_false (is_in_array (walk p d)) (any_walk is_in_array es d) h in
    let y = or_false (is_no_object (walk p d)) (any_walk is_no_object es d) k in
    (arrived (walk p d) x.0 y.0, from_any_walk es d x.1 y.1)

-- ---- the test comes out the same in any order

pub clash_sym : (p q : Pointer) → clash p q ≡ clash q p
clash_sym p q =
    by_test (clash q p)
    (λ a. by_test (clash p q)
    (λ b. b ∙ sym a)
    (λ b. absurd (true≢false (sym a ∙ apart_clash q p (apart_sym p q (clash_apart p q b))))))
    (λ a. apart_clash p q (apart_sym q p (clash_apart q p a)) ∙ sym a)

perm_clash_with : {es fs : List Entry} (p : Pointer) → Perm es fs → clash_with p es ≡ clash_with p fs
perm_clash_with p stay = refl
perm_clash_with p (skip {x = entry q c} π) = ap (λ (b : Bool). clash p q || b) (perm_clash_with p π)
perm_clash_with p (swap {x = entry q c} {y = entry r c'} {xs = es}) = swap_or false (clash p q) (clash p r) (clash_with p es)
perm_clash_with p (and_then π ρ) = perm_clash_with p π ∙ perm_clash_with p ρ

pub perm_any_clash : {es fs : List Entry} → Perm es fs → any_clash es ≡ any_clash fs
perm_any_clash stay = refl
perm_any_clash (skip {x = entry q c} π) = ap₂ ◌||◌ (perm_clash_with q π) (perm_any_clash π)
perm_any_clash (swap {x = entry q c} {y = entry r c'} {xs = es}) =
    ap (λ (b : Bool). (b || clash_with q es) || (clash_with r es || any_clash es)) (clash_sym q r)
    ∙ swap_or (clash r q) (clash_with q es) (clash_with r es) (any_clash es)
perm_any_clash (and_then π ρ) = perm_any_clash π ∙ perm_any_clash ρ
