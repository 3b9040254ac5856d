-- The conditions on entries: kept by another order, and by `under`.
-- Assumes nothing.
use mathlib.Core.Bool.{cond}
use mathlib.Core.List.{List, [], ◌∷◌}
use mathlib.Core.Logic.{◌≢◌}
use mathlib.Core.Option.{Option, some}
use mathlib.Core.Path.{◌≡◌, refl, sym, ap, ◌∙◌}
use Rattle.laws.specs.Sorting.{Perm, stay, skip, swap, and_then}
use Rattle.laws.proofs.Bools.{by_test}
use Rattle.laws.specs.Order.{same}
use Rattle.laws.proofs.Orders.{same_eq}
use Rattle.text.specs.Doc.{Name, Doc}
use Rattle.contact.specs.Pointer.{Pointer, last, down}
use Rattle.contact.specs.Patch.{Change, Entry, entry, mine, under}
use Rattle.contact.specs.Entries.{Apart, ApartFrom, NoClash, ParentsThere}
use Rattle.contact.proofs.Patching.Names.{same_yes, same_no, by_name}

pub apart_sym : (p q : Pointer) → Apart p q → Apart q p
apart_sym (last n) (last m) h = λ e. h (sym e)
apart_sym (last n) (down m q) h = λ e. h (sym e)
apart_sym (down n p) (last m) h = λ e. h (sym e)
apart_sym (down n p) (down m q) h = λ e. apart_sym p q (h (sym e))

-- ---- another order

perm_apart : {es fs : List Entry} (p : Pointer) → Perm es fs → ApartFrom p es → ApartFrom p fs
perm_apart p stay h = h
perm_apart p (skip {x = entry q c} π) h = (h.0, perm_apart p π h.1)
perm_apart p (swap {x = entry q c} {y = entry r d}) h = (h.1.0, (h.0, h.1.1))
perm_apart p (and_then π ρ) h = perm_apart p ρ (perm_apart p π h)

pub perm_noclash : {es fs : List Entry} → Perm es fs → NoClash es → NoClash fs
perm_noclash stay k = k
perm_noclash (skip {x = entry q c} π) k = (perm_apart q π k.0, perm_noclash π k.1)
perm_noclash (swap {x = entry q c} {y = entry r d}) k = ((apart_sym q r k.0.0, k.1.0), (k.0.1, k.1.1))
perm_noclash (and_then π ρ) k = perm_noclash ρ (perm_noclash π k)

pub perm_parents : {es fs : List Entry} (d : Doc) → Perm es fs → ParentsThere es d → ParentsThere fs d
perm_parents d stay h = h
perm_parents d (skip {x = entry q c} π) h = (h.0, perm_parents d π h.1)
perm_parents d (swap {x = entry q c} {y = entry r c'}) h = (h.1.0, (h.0, h.1.1))
perm_parents d (and_then π ρ) h = perm_parents d ρ (perm_parents d π h)

-- two entries for two names, in either order
mine_swap : (n m k : Name) (c c' : Change) (o : Option Change) → n ≢ m
    → cond (same n k) (some c) (cond (same m k) (some c') o) ≡ cond (same m k) (some c') (cond (same n k) (some c) o)
mine_swap n m k c c' o h =
    by_test (same n k)
    (λ b. simp (b, same_no (λ (e : m ≡ k). h (same_eq n k b ∙ sym e))))
    (λ b. simp b)

pub perm_mine : {es fs : List Entry} (n : Name) → Perm es fs → NoClash es → mine n es ≡ mine n fs
perm_mine n stay k = refl
perm_mine n (skip {x = entry (last m) c} π) k = ap (cond (same m n) (some c)) (perm_mine n π k.1)
perm_mine n (skip {x = entry (down m q) c} π) k = perm_mine n π k.1
perm_mine n (swap {x = entry (last m) c} {y = entry (last l) c'} {xs = es}) k = mine_swap m l n c c' (mine n es) k.0.0
perm_mine n (swap {x = entry (last m) c} {y = entry (down l q) c'}) k = refl
perm_mine n (swap {x = entry (down m p) c} {y = entry (last l) c'}) k = refl
perm_mine n (swap {x = entry (down m p) c} {y = entry (down l q) c'}) k = refl
perm_mine n (and_then π ρ) k = perm_mine n π k ∙ perm_mine n ρ (perm_noclash π k)

pub perm_under : {es fs : List Entry} (n : Name) → Perm es fs → Perm (under n es) (under n fs)
perm_under n stay = stay
perm_under n (skip {x = entry (last m) c} π) = perm_under n π
perm_under n (skip {x = entry (down m q) c} π) =
    by_test (same m n) (λ b. simp b (skip (perm_under n π))) (λ b. simp b (perm_under n π))
perm_under n (swap {x = entry (last m) c} {y = entry (last l) c'}) = stay
perm_under n (swap {x = entry (last m) c} {y = entry (down l q) c'}) = stay
perm_under n (swap {x = entry (down m p) c} {y = entry (last l) c'}) = stay
perm_under n (swap {x = entry (down m p) c} {y = entry (down l q) c'}) =
    by_test (same m n)
    (λ b. by_test (same l n) (λ b'. simp (b, b') swap) (λ b'. simp (b, b') stay))
    (λ b. by_test (same l n) (λ b'. simp (b, b') stay) (λ b'. simp (b, b') stay))
perm_under n (and_then π ρ) = and_then (perm_under n π) (perm_under n ρ)

-- ---- `under`

pub under_apart : (n : Name) (p : Pointer) (es : List Entry) → ApartFrom (down n p) es → ApartFrom p (under n es)
under_apart n p [] h = tt
under_apart n p (entry (last m) c ∷ es) h = under_apart n p es h.1
under_apart n p (entry (down m q) c ∷ es) h =
    by_name m n
    (λ e. simp (same_yes e) (h.0 (sym e), under_apart n p es h.1))
    (λ ne. simp (same_no ne) (under_apart n p es h.1))

pub under_noclash : (n : Name) (es : List Entry) → NoClash es → NoClash (under n es)
under_noclash n [] k = tt
under_noclash n (entry (last m) c ∷ es) k = under_noclash n es k.1
under_noclash n (entry (down m q) c ∷ es) k =
    by_name m n
    (λ e. simp (same_yes e) (under_apart n q es (rw e at k.0), under_noclash n es k.1))
    (λ ne. simp (same_no ne) (under_noclash n es k.1))
