-- What `seek` finds in an object that `applied` has written: `seek_applied`.
-- Assumes nothing.
use mathlib.Core.List.{List, [], ◌∷◌}
use mathlib.Core.Logic.{◌≢◌}
use mathlib.Core.Option.{Option, none, some, map, some-ne-none}
use mathlib.Core.Path.{◌≡◌, refl, sym, ap, ◌∙◌}
use Prim.Native.Nat.{ℕ}
use Rattle.laws.proofs.Bools.{by_test}
use Rattle.laws.specs.Order.{before}
use Rattle.laws.proofs.Orders.{same_refl}
use Rattle.text.specs.Doc.{Name, Doc, Members, empty, member, Property, property, seek}
use Rattle.text.specs.Writing.{spelled}
use Rattle.contact.specs.Pointer.{last, down}
use Rattle.contact.specs.Patch.{Change, remove, set, Entry, entry, mine, under, insert, fresh, added, keep, applied, kept}
use Rattle.contact.specs.Entries.{ApartFrom, NoClash, valued}
use Rattle.contact.proofs.Patching.Names.{same_yes, same_no, by_name}
use Rattle.contact.proofs.Patching.Seek.{over}

-- ---- added members

seek_insert_same : (n : Name) (v : Doc) (ms : Members) → seek n ms ≡ none → seek n (insert n v ms) ≡ some (property (spelled n) v)
seek_insert_same n v empty h = simp same_refl
seek_insert_same n v (member m t d ms) h =
    by_name m n
    (λ e. absurd (some-ne-none (property t d) (simp (same_yes e) at h)))
    (λ ne. by_test (before n m)
    (λ b. simp (b, same_refl))
    (λ b. simp (b, same_no ne) (seek_insert_same n v ms (simp (same_no ne) at h))))

pub seek_insert_other : (n k : Name) (v : Doc) (ms : Members) → n ≢ k → seek k (insert n v ms) ≡ seek k ms
seek_insert_other n k v empty h = simp (same_no h)
seek_insert_other n k v (member m t d ms) h =
    by_test (before n m) (λ b. simp (b, same_no h)) (λ b. simp (b, seek_insert_other n k v ms h))

seek_fresh_other : (o : Option Property) (n k : Name) (v : Doc) (ms : Members) → n ≢ k → seek k (fresh o n v ms) ≡ seek k ms
seek_fresh_other none n k v ms h = seek_insert_other n k v ms h
seek_fresh_other (some d) n k v ms h = refl

-- the property n that the entries add
abbrev pub said : Name → Option Change → Option Property
said n none = none
said n (some c) = valued n c none

-- an entry for n stands alone
pub mine_none : (n : Name) (es : List Entry) → ApartFrom (last n) es → mine n es ≡ none
mine_none n [] h = refl
mine_none n (entry (last m) c ∷ es) h = simp (same_no (λ (e : m ≡ n). h.0 (sym e))) (mine_none n es h.1)
mine_none n (entry (down m p) c ∷ es) h = mine_none n es h.1

pub added_old : (n : Name) (s : Property) (ms : Members) (es : List Entry) → seek n ms ≡ some s → seek n (added ms es) ≡ none
added_old n s ms [] h = refl
added_old n s ms (entry (last m) remove ∷ es) h = added_old n s ms es h
added_old n s ms (entry (last m) (set v) ∷ es) h =
    by_name m n
    (λ e. rw (e, h) (added_old n s ms es h))
    (λ ne. rw (seek_fresh_other (seek m ms) m n v (added ms es) ne) (added_old n s ms es h))
added_old n s ms (entry (down m p) c ∷ es) h = added_old n s ms es h

pub added_new : (n : Name) (ms : Members) (es : List Entry) → NoClash es → seek n ms ≡ none → seek n (added ms es) ≡ said n (mine n es)
added_new n ms [] k h = refl
added_new n ms (entry (last m) remove ∷ es) k h =
    by_name m n
    (λ e. simp (same_yes e) (added_new n ms es k.1 h ∙ ap (said n) (mine_none n es (rw e at k.0))))
    (λ ne. simp (same_no ne) (added_new n ms es k.1 h))
added_new n ms (entry (last m) (set v) ∷ es) k h =
    by_name m n
    (λ e. simp (e, h, same_refl) (seek_insert_same n v (added ms es) (added_new n ms es k.1 h ∙ ap (said n) (mine_none n es (rw e at k.0)))))
    (λ ne. simp (same_no ne) (seek_fresh_other (seek m ms) m n v (added ms es) ne ∙ added_new n ms es k.1 h))
added_new n ms (entry (down m p) c ∷ es) k h = added_new n ms es k.1 h

-- ---- kept members

-- found in the kept members, or after them
abbrev pub or_more : Option Property → Option Change → (Doc → Doc) → Option Property → Option Property
or_more none c f more = more
or_more (some s) none f more = some (over f s)
or_more (some s) (some remove) f more = more
or_more (some s) (some (set v)) f more = some (property s.label v)

more_removed : (o : Option Property) (f : Doc → Doc) (more : Option Property) → or_more o (some remove) f more ≡ more
more_removed none f more = refl
more_removed (some s) f more = refl

keep_other : (c : Option Change) (n k : Name) (t : List ℕ) (d : Doc) (ms : Members) → n ≢ k → seek k (keep c n t d ms) ≡ seek k ms
keep_other none n k t d ms h = simp (same_no h)
keep_other (some remove) n k t d ms h = refl
keep_other (some (set v)) n k t d ms h = simp (same_no h)

keep_same : (c : Option Change) (n : Name) (t : List ℕ) (d : Doc) (f : Doc → Doc) (ms : Members) (o more : Option Property)
    → seek n ms ≡ or_more o c f more → seek n (keep c n t (f d) ms) ≡ or_more (some (property t d)) c f more
keep_same none n t d f ms o more h = simp same_refl
keep_same (some remove) n t d f ms o more h = h ∙ more_removed o f more
keep_same (some (set v)) n t d f ms o more h = simp same_refl

pub seek_kept : (ms : Members) (n : Name) (es : List Entry) (more : Members)
    → seek n (kept ms es more) ≡ or_more (seek n ms) (mine n es) (λ d. applied d (under n es)) (seek n more)
seek_kept empty n es more = refl
seek_kept (member m t d ms) n es more =
    by_name m n
    (λ e. rw (e, same_refl n) (keep_same (mine n es) n t d (λ x. applied x (under n es)) (kept ms es more) (seek n ms) (seek n more) (seek_kept ms n es more)))
    (λ ne. rw (same_no ne) (keep_other (mine m es) m n t (applied d (under m es)) (kept ms es more) ne ∙ seek_kept ms n es more))

-- ---- both

-- an entry for n decides; else the member that was there, as the entries that enter it leave it
abbrev pub decided : Name → Option Change → (Doc → Doc) → Option Property → Option Property
decided n none f o = map (over f) o
decided n (some c) f o = valued n c o

pub seek_applied : (n : Name) (ms : Members) (es : List Entry) → NoClash es
    → seek n (kept ms es (added ms es)) ≡ decided n (mine n es) (λ d. applied d (under n es)) (seek n ms)
seek_applied n ms es k = seek_kept ms n es (added ms es) ∙ go (seek n ms) (mine n es) refl refl
  where
    go : (o : Option Property) (c : Option Change) → seek n ms ≡ o → mine n es ≡ c
        → or_more o c (λ d. applied d (under n es)) (seek n (added ms es)) ≡ decided n c (λ d. applied d (under n es)) o
    go none none p q = added_new n ms es k p ∙ ap (said n) q
    go none (some c) p q = added_new n ms es k p ∙ ap (said n) q
    go (some s) none p q = refl
    go (some s) (some remove) p q = added_old n s ms es p
    go (some s) (some (set v)) p q = refl
