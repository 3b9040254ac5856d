-- The entries one at a time, in any order: each step finds its parent, and the end is the card that was written, member order not counted:
-- `in_any_order`.
-- Assumes nothing.
use mathlib.Core.List.{List, [], ◌∷◌}
use mathlib.Core.Option.{Option, none, some, map}
use mathlib.Core.Path.{◌≡◌, refl, ap, ◌∙◌}
use Rattle.laws.specs.Sorting.{Perm}
use Rattle.laws.proofs.Orders.{same_refl}
use Rattle.text.specs.Doc.{Doc, scalar, array, object, Property, seek}
use Rattle.contact.specs.Pointer.{Pointer, last, down}
use Rattle.contact.specs.Patch.{Change, Entry, entry, onward, walk, put, alter, changed, under, applied}
use Rattle.contact.specs.Entries.{Apart, ApartFrom, NoClash, ParentsThere, valued}
use Rattle.contact.proofs.Patching.Looking.{SameDoc, RunsTo}
use Rattle.contact.proofs.Patching.Same.{likeness_refl, likeness_trans, same_object, alike_refl, alike, alike_over}
use Rattle.contact.proofs.Patching.Names.{same_no, by_name}
use Rattle.contact.proofs.Patching.Seek.{over, seek_put_same, seek_put_other, seek_alter_same, seek_alter_other}
use Rattle.contact.proofs.Patching.Applied.{mine_none, seek_applied}
use Rattle.contact.proofs.Patching.Entries.{perm_noclash, perm_parents, under_apart, under_noclash}
use Rattle.contact.proofs.Patching.Untouched.{applied_nil, under_none, mine_none_down, over_nil}
use Rattle.contact.proofs.Patching.Order.{any_order}

-- ---- one entry first, and then the others at once

pub absorb : (q : Pointer) (c : Change) (d : Doc) (es : List Entry) → NoClash (entry q c ∷ es)
    → SameDoc (applied (changed q c d) es) (applied d (entry q c ∷ es))
absorb (last m) c (scalar kind token) es k = likeness_refl (scalar kind token)
absorb (last m) c (array xs) es k = likeness_refl (array xs)
absorb (last m) c (object ms) es k =
    same_object _ _ λ n. alike (seek_applied n (put m c ms) es k.1) (seek_applied n ms (entry (last m) c ∷ es) k)
    (by_name m n
    (λ e. let h : ApartFrom (last n) es = rw e at k.0 in
    simp (e, same_refl n, mine_none n es h, under_none n es h, seek_put_same n c ms, over_nil (valued n c (seek n ms)))
    (alike_refl _))
    (λ ne. simp (same_no ne, seek_put_other m n c ms ne) (alike_refl _)))
absorb (down m q) c (scalar kind token) es k = likeness_refl (scalar kind token)
absorb (down m q) c (array xs) es k = likeness_refl (array xs)
absorb (down m q) c (object ms) es k =
    same_object _ _ λ n. alike (seek_applied n (alter m (changed q c) ms) es k.1) (seek_applied n ms (entry (down m q) c ∷ es) k)
    (by_name m n
    (λ e. let h : ApartFrom (down n q) es = rw e at k.0 in
    simp (e, same_refl n, mine_none_down n q es h, seek_alter_same n (changed q c) ms)
    (alike_over (changed q c) (λ d. applied d (under n es)) (λ d. applied d (entry q c ∷ under n es)) (seek n ms)
    (λ d. absorb q c d (under n es) (under_apart n q es h, under_noclash n es k.1))))
    (λ ne. simp (same_no ne, seek_alter_other m n (changed q c) ms ne) (alike_refl _)))

-- ---- no entry takes another's parent away

walk_stays : (q r : Pointer) (c : Change) (d : Doc) → Apart q r → walk r (changed q c d) ≡ walk r d
walk_stays (last n) (last m) c (scalar kind token) h = refl
walk_stays (last n) (last m) c (array xs) h = refl
walk_stays (last n) (last m) c (object ms) h = refl
walk_stays (last n) (down m r) c (scalar kind token) h = refl
walk_stays (last n) (down m r) c (array xs) h = refl
walk_stays (last n) (down m r) c (object ms) h = ap (onward (walk r)) (seek_put_other n m c ms h)
walk_stays (down n q) (last m) c (scalar kind token) h = refl
walk_stays (down n q) (last m) c (array xs) h = refl
walk_stays (down n q) (last m) c (object ms) h = refl
walk_stays (down n q) (down m r) c (scalar kind token) h = refl
walk_stays (down n q) (down m r) c (array xs) h = refl
walk_stays (down n q) (down m r) c (object ms) h =
    by_name n m
    (λ e. rw e (ap (onward (walk r)) (seek_alter_same m (changed q c) ms) ∙ go (seek m ms) (λ d. walk_stays q r c d (h e))))
    (λ ne. ap (onward (walk r)) (seek_alter_other n m (changed q c) ms ne))
  where
    go : (o : Option Property) → ((d : Doc) → walk r (changed q c d) ≡ walk r d)
        → onward (walk r) (map (over (changed q c)) o) ≡ onward (walk r) o
    go none ih = refl
    go (some s) ih = ih s.content

parents_stay : (q : Pointer) (c : Change) (d : Doc) (es : List Entry) → ApartFrom q es → ParentsThere es d → ParentsThere es (changed q c d)
parents_stay q c d [] h k = tt
parents_stay q c d (entry r c' ∷ es) h k = (walk_stays q r c d h.0 ∙ k.0, parents_stay q c d es h.1 k.1)

-- ---- the theorem

pub one_at_a_time : (es : List Entry) (d : Doc) → NoClash es → ParentsThere es d → RunsTo es d (applied d es)
one_at_a_time [] d k h = record { end = d; reached = refl; alike = rw (applied_nil d) (likeness_refl d) }
one_at_a_time (entry q c ∷ es) d k h =
    let r = one_at_a_time es (changed q c d) k.1 (parents_stay q c d es k.0 h.1) in
    record { end = r.end; reached = rw h.0 r.reached; alike = likeness_trans r.alike (absorb q c d es k) }

-- in any order, and the end is the card that is written for the order that the text has
pub in_any_order : (es fs : List Entry) (d : Doc) → Perm es fs → NoClash es → ParentsThere es d → RunsTo fs d (applied d es)
in_any_order es fs d π k h = rw (any_order d es fs π k) (one_at_a_time fs d (perm_noclash π k) (perm_parents d π h))
