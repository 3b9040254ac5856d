-- Distinct names stay distinct: after steps (`distinct_run`), and in what is written (`distinct_applied`).
-- Assumes nothing.
use mathlib.Core.List.{List, [], ◌∷◌}
use mathlib.Core.Option.{Option, none, some, none-ne-some, some-ne-none, some-injective}
use mathlib.Core.Path.{◌≡◌, refl, sym, ap, ◌∙◌, subst}
use Prim.Native.Nat.{ℕ}
use lib.Dec.{eqb}
use Rattle.laws.specs.Sorting.{Perm, stay, skip, swap, and_then}
use Rattle.laws.proofs.Bools.{by_test}
use Rattle.laws.specs.Order.{same, before}
use Rattle.laws.proofs.Orders.{same_refl}
use Rattle.text.specs.Text.{bytes}
use Rattle.text.specs.Doc.{Name, Doc, scalar, array, object, Members, empty, member, Property, property, seek}
use Rattle.text.specs.Distinct.{Distinct, DistinctMembers}
use Rattle.contact.specs.Pointer.{Pointer, last, down, find}
use Rattle.contact.specs.Patch.{Change, remove, set, Entry, entry, change_of, entries_of, Walk, arrives, in_array, no_object, walk, write, without, put, alter, changed, when_arrived, run_on, run, mine, under, insert, fresh, added, keep, applied, kept}
use Rattle.contact.specs.Localize.{start}
use Rattle.contact.specs.Entries.{NoClash}
use Rattle.contact.proofs.Patching.Names.{same_yes, same_no, by_name}
use Rattle.contact.proofs.Patching.Seek.{seek_write_other, seek_without_other, seek_alter_other, find_has}
use Rattle.contact.proofs.Patching.Applied.{seek_insert_other, said, mine_none, added_old, added_new, or_more, seek_kept}
use Rattle.contact.proofs.Patching.Entries.{under_noclash}

-- no value that is set has two members of one name in one object
abbrev DistinctChange : Change → Type 0
DistinctChange remove = Unit {0}
DistinctChange (set v) = Distinct v

abbrev pub DistinctValues : List Entry → Type 0
DistinctValues [] = Unit {0}
DistinctValues (entry p c ∷ es) = DistinctChange c × DistinctValues es

-- ---- one entry at a time

distinct_write : (n : Name) (v : Doc) (ms : Members) → Distinct v → DistinctMembers ms → DistinctMembers (write n v ms)
distinct_write n v empty k h = (refl, k, tt)
distinct_write n v (member m t d ms) k h =
    by_name m n
    (λ e. simp (same_yes e) (h.0, k, h.2))
    (λ ne. simp (same_no ne) (seek_write_other n m v ms (λ e. ne (sym e)) ∙ h.0, h.1, distinct_write n v ms k h.2))

distinct_without : (n : Name) (ms : Members) → DistinctMembers ms → DistinctMembers (without n ms)
distinct_without n empty h = tt
distinct_without n (member m t d ms) h =
    by_name m n
    (λ e. simp (same_yes e) (distinct_without n ms h.2))
    (λ ne. simp (same_no ne) (seek_without_other n m ms (λ e. ne (sym e)) ∙ h.0, h.1, distinct_without n ms h.2))

distinct_put : (n : Name) (c : Change) (ms : Members) → DistinctChange c → DistinctMembers ms → DistinctMembers (put n c ms)
distinct_put n remove ms k h = distinct_without n ms h
distinct_put n (set v) ms k h = distinct_write n v ms k h

distinct_alter : (n : Name) (f : Doc → Doc) (ms : Members) → ((d : Doc) → Distinct d → Distinct (f d)) → DistinctMembers ms → DistinctMembers (alter n f ms)
distinct_alter n f empty k h = tt
distinct_alter n f (member m t d ms) k h =
    by_name m n
    (λ e. simp (same_yes e) (h.0, k d h.1, h.2))
    (λ ne. simp (same_no ne) (seek_alter_other n m f ms (λ e. ne (sym e)) ∙ h.0, h.1, distinct_alter n f ms k h.2))

distinct_changed : (p : Pointer) (c : Change) (d : Doc) → DistinctChange c → Distinct d → Distinct (changed p c d)
distinct_changed (last n) c (scalar kind token) k h = tt
distinct_changed (last n) c (array xs) k h = h
distinct_changed (last n) c (object ms) k h = distinct_put n c ms k h
distinct_changed (down n p) c (scalar kind token) k h = tt
distinct_changed (down n p) c (array xs) k h = h
distinct_changed (down n p) c (object ms) k h = distinct_alter n (changed p c) ms (λ d. distinct_changed p c d k) h

pub distinct_run : (es : List Entry) (d e : Doc) → DistinctValues es → Distinct d → run es d ≡ some e → Distinct e
distinct_run [] d e k h r = subst Distinct (some-injective d e r) h
distinct_run (entry p c ∷ es) d e k h r = go (walk p d) r (distinct_run es (changed p c d) e k.1 (distinct_changed p c d k.0 h))
  where
    go : (w : Walk) → run_on (run es) (when_arrived w (changed p c d)) ≡ some e → (run es (changed p c d) ≡ some e → Distinct e) → Distinct e
    go arrives q f = f q
    go in_array q f = absurd (none-ne-some e q)
    go no_object q f = absurd (none-ne-some e q)

-- ---- all at once

distinct_insert : (n : Name) (v : Doc) (ms : Members) → Distinct v → seek n ms ≡ none → DistinctMembers ms → DistinctMembers (insert n v ms)
distinct_insert n v empty k e h = (refl, k, tt)
distinct_insert n v (member m t d ms) k e h =
    by_name m n
    (λ q. absurd (some-ne-none (property t d) (simp (same_yes q) at e)))
    (λ ne. by_test (before n m)
    (λ b. simp b (e, k, h))
    (λ b. simp b (
      seek_insert_other n m v ms (λ q. ne (sym q)) ∙ h.0,
      h.1,
      distinct_insert n v ms k (simp (same_no ne) at e) h.2,
    )))

distinct_added : (ms : Members) (es : List Entry) → NoClash es → DistinctValues es → DistinctMembers (added ms es)
distinct_added ms [] k h = tt
distinct_added ms (entry (last n) remove ∷ es) k h = distinct_added ms es k.1 h.1
distinct_added ms (entry (last n) (set v) ∷ es) k h = go (seek n ms) refl (distinct_added ms es k.1 h.1)
  where
    go : (o : Option Property) → seek n ms ≡ o → DistinctMembers (added ms es) → DistinctMembers (fresh o n v (added ms es))
    go none e ih = distinct_insert n v (added ms es) h.0 (added_new n ms es k.1 e ∙ ap (said n) (mine_none n es k.0)) ih
    go (some s) e ih = ih
distinct_added ms (entry (down n p) c ∷ es) k h = distinct_added ms es k.1 h.1

under_values : (n : Name) (es : List Entry) → DistinctValues es → DistinctValues (under n es)
under_values n [] h = tt
under_values n (entry (last m) c ∷ es) h = under_values n es h.1
under_values n (entry (down m p) c ∷ es) h =
    by_test (same m n) (λ b. simp b (h.0, under_values n es h.1)) (λ b. simp b (under_values n es h.1))

abbrev DistinctSaid : Option Change → Type 0
DistinctSaid none = Unit {0}
DistinctSaid (some c) = DistinctChange c

mine_values : (n : Name) (es : List Entry) → DistinctValues es → DistinctSaid (mine n es)
mine_values n [] h = tt
mine_values n (entry (last m) c ∷ es) h = by_test (same m n) (λ b. simp b h.0) (λ b. simp b (mine_values n es h.1))
mine_values n (entry (down m p) c ∷ es) h = mine_values n es h.1

distinct_keep : (c : Option Change) (n : Name) (t : List ℕ) (d : Doc) (ms : Members)
    → DistinctSaid c → seek n ms ≡ none → Distinct d → DistinctMembers ms → DistinctMembers (keep c n t d ms)
distinct_keep none n t d ms k e h hs = (e, h, hs)
distinct_keep (some remove) n t d ms k e h hs = hs
distinct_keep (some (set v)) n t d ms k e h hs = (e, k, hs)

-- no member of ms is in more
abbrev Beyond : Members → Members → Type 0
Beyond ms more = (n : Name) (s : Property) → seek n ms ≡ some s → seek n more ≡ none

beyond_tail : (n : Name) (t : List ℕ) (d : Doc) (ms more : Members) → Beyond (member n t d ms) more → Beyond ms more
beyond_tail n t d ms more b m s e =
    by_test (same n m) (λ q. b m (property t d) (simp q)) (λ q. b m s (simp q e))

mutual
  pub distinct_applied : (d : Doc) (es : List Entry) → NoClash es → DistinctValues es → Distinct d → Distinct (applied d es)
  distinct_applied (scalar kind token) es k v h = tt
  distinct_applied (array xs) es k v h = h
  distinct_applied (object ms) es k v h =
      distinct_kept ms es (added ms es) k v h (distinct_added ms es k v) (λ n s. added_old n s ms es)

  distinct_kept : (ms : Members) (es : List Entry) (more : Members) → NoClash es → DistinctValues es → DistinctMembers ms → DistinctMembers more
      → Beyond ms more → DistinctMembers (kept ms es more)
  distinct_kept empty es more k v h hs b = hs
  distinct_kept (member n t d ms) es more k v h hs b =
      distinct_keep (mine n es) n t (applied d (under n es)) (kept ms es more) (mine_values n es v)
      (seek_kept ms n es more ∙ ap (λ (o : Option Property). or_more o (mine n es) (λ x. applied x (under n es)) (seek n more)) h.0 ∙ b n (property t d) (simp (same_refl n)))
      (distinct_applied d (under n es) (under_noclash n es k) (under_values n es v) h.1)
      (distinct_kept ms es more k v h.2 hs (beyond_tail n t d ms more b))

-- ---- another order

pub perm_values : {es fs : List Entry} → Perm es fs → DistinctValues es → DistinctValues fs
perm_values stay h = h
perm_values (skip {x = entry p c} π) h = (h.0, perm_values π h.1)
perm_values (swap {x = entry p c} {y = entry q c'}) h = (h.1.0, (h.0, h.1.1))
perm_values (and_then π ρ) h = perm_values ρ (perm_values π h)

-- ---- the entries of a PatchObject whose names are distinct

distinct_change : (d : Doc) → Distinct d → DistinctChange (change_of d)
distinct_change (scalar kind token) h = by_test (eqb kind 1) (λ q. simp q tt) (λ q. simp q tt)
distinct_change (array xs) h = h
distinct_change (object ms) h = h

pub entries_values : (ms : Members) → DistinctMembers ms → DistinctValues (entries_of ms)
entries_values empty h = tt
entries_values (member n t d ms) h = (distinct_change d h.1, entries_values ms h.2)

-- ---- the starting card, and what is found in a card

pub distinct_start : (card : Doc) → Distinct card → Distinct (start card)
distinct_start (scalar kind token) h = tt
distinct_start (array xs) h = h
distinct_start (object ms) h = distinct_without (bytes "localizations") ms h

seek_distinct : (n : Name) (ms : Members) (s : Property) → DistinctMembers ms → seek n ms ≡ some s → Distinct s.content
seek_distinct n empty s h e = absurd (none-ne-some s e)
seek_distinct n (member m t d ms) s h e =
    by_name m n
    (λ q. subst (λ (r : Property). Distinct r.content) (some-injective (property t d) s (simp (same_yes q) at e)) h.1)
    (λ ne. seek_distinct n ms s h.2 (simp (same_no ne) at e))

pub find_distinct : (p : Pointer) (d : Doc) (s : Property) → Distinct d → find p d ≡ some s → Distinct s.content
find_distinct p d s h e = find_has Distinct seek_distinct p d s h e
