-- Laws of an object as the entries of a patch leave it, member by member:
--     linked              the bytes of a member that is written, or not, and of those after it
--     based-object, based-other     a value as the entries leave it, by its kind
--     kept-linked         the members of the object, one after the other
--     added-linked        the members that ascending entries add, one entry after the other: they stand in the order of the entries
--     change-null, change-set, adds-down     what an entry adds
--     passed_none, passed-some     a member that is not written, and one that is
-- Assumes nothing.
use Rattle.std.specs.declared.cmp.Ordering.TheVariants.{Less}
use Prim.Native.Nat.{ℕ, ◌<◌}
use mathlib.Core.Path.{◌≡◌, refl}
use mathlib.Core.Bool.{Bool, true, false, cond}
use mathlib.Core.List.{List, [], ◌∷◌, ◌++◌, append_assoc}
use mathlib.Core.Option.{Option, none, some}
use native.Mathlib.Omega.{arith}
use lib.ListN.{length}
use borrow.Author.Tests.{eq-eqb, ne_eqb}
use Rattle.laws.specs.Order.{same, before}
use Rattle.text.specs.Text.{bytes}
use Rattle.text.specs.Doc.{Name, Doc, scalar, array, object, Members, empty, member, Property, seek, kind_of}
use Rattle.text.specs.Writing.{spelled, written, written_members}
use Rattle.json_reader.specs.Cursors.{rest}
use Rattle.contact.specs.Pointer.{Pointer, last, down, first_part}
use Rattle.contact.specs.Patch.{Change, remove, set, Entry, entry, mine, under, insert, fresh, added, keep, applied, kept, change_of}
use Rattle.pointers.specs.Pointers.{pointer_order}
use Rattle.patch.specs.Runs.{LeadsAll, leads_more, InOrder, asc_more}
use Rattle.patch.specs.Patched.{based, based_all, kept_by, stays, freshly, adds, piece, since, Passed}
use Rattle.output.specs.Written.{full, Wrote}
use Rattle.patch.specs.Copied.{head_of}
use Rattle.patch.specs.declared.writing.Pen.{Pen}
use Rattle.output.proofs.Bytes.{wrote_none, wrote_then}

-- ---- one member ----

-- a member that is written, or not, and those after it
abbrev pub link : Option Doc → Name → (label : List ℕ) → Members → Members
link none n label ms = ms
link (some d) n label ms = member n label d ms

pub linked : (o : Option Doc) (n label : List ℕ) (ms : Members) (first : Bool)
    → written_members (link o n label ms) first ≡ piece o first label ++ written_members ms (since o first)
linked none n label ms first = refl
linked (some d) n label ms first = simp append_assoc

-- ---- a value ----

pub based_object : (root : Bool) (ms : Members) (es : List Entry)
    → written (applied (based root (object ms)) es) ≡ 123 ∷ written_members (kept (based_all root ms) es (added (based_all root ms) es)) true
based_object true ms es = refl
based_object false ms es = refl

pub based_members : (root : Bool) (ms : Members) → based root (object ms) ≡ object (based_all root ms)
based_members true ms = refl
based_members false ms = refl

pub based_other : (root : Bool) (d : Doc) (es : List Entry) → (kind_of d ≡ 7 → ⊥) → applied (based root d) es ≡ d
based_other true (scalar kind token) es ne = refl
based_other true (array ms) es ne = refl
based_other true (object ms) es ne = absurd (ne refl)
based_other false (scalar kind token) es ne = refl
based_other false (array ms) es ne = refl
based_other false (object ms) es ne = absurd (ne refl)

-- ---- the members of the object ----

keep_link : (o : Option Change) (n label : List ℕ) (d : Doc) (ms : Members) → keep o n label d ms ≡ link (kept_by o d) n label ms
keep_link none n label d ms = refl
keep_link (some remove) n label d ms = refl
keep_link (some (set v)) n label d ms = refl

pub kept_linked : (root : Bool) (n label : List ℕ) (d : Doc) (ms : Members) (es : List Entry) (more : Members)
    → kept (based_all root (member n label d ms)) es more ≡ link (stays root n es d) n label (kept (based_all root ms) es more)
unfolding stays
kept_linked false n label d ms es more = keep_link (mine n es) n label (applied d (under n es)) (kept ms es more)
kept_linked true n label d ms es more = go (same n (bytes "localizations"))
  where
    go : (b : Bool) → let rest = based_all true ms in
        kept (cond b rest (member n label d rest)) es more ≡ link (cond b none (kept_by (mine n es) (applied d (under n es)))) n label (kept rest es more)
    go true = refl
    go false = keep_link (mine n es) n label (applied d (under n es)) (kept (based_all true ms) es more)

-- ---- the members that are added ----

-- the name stands before that of the first member
abbrev Heads : Name → Members → Type 0
Heads n empty = Prim.Unit {0}
Heads n (member m label d ms) = before n m ≡ true

first_in : (n : Name) (v : Doc) (ms : Members) → Heads n ms → insert n v ms ≡ member n (spelled n) v ms
first_in n v empty h = refl
first_in n v (member m label d ms) h = rw h

heads_insert : (n m : Name) (v : Doc) (ms : Members) → before n m ≡ true → Heads n ms → Heads n (insert m v ms)
heads_insert n m v empty e h = e
heads_insert n m v (member k label d ms) e h = go (before m k)
  where
    go : (b : Bool) → Heads n (cond b (member m (spelled m) v (member k label d ms)) (member k label d (insert m v ms)))
    go true = e
    go false = h

heads_fresh : (n m : Name) (v : Doc) (o : Option Property) (ms : Members) → before n m ≡ true → Heads n ms → Heads n (fresh o m v ms)
heads_fresh n m v none ms e h = heads_insert n m v ms e h
heads_fresh n m v (some p) ms e h = h

less_before : (n m : Name) → pointer_order (last n) (last m) ≡ Less → before n m ≡ true
unfolding pointer_order
less_before n m e = rw e

-- it stands before the names of all members that later entries add
heads_added : (n : Name) (ms : Members) (es : List Entry) → LeadsAll (last n) es → Heads n (added ms es)
heads_added n ms [] l = tt
heads_added n ms (entry (last m) remove ∷ es) (leads_more e x l) = heads_added n ms es l
heads_added n ms (entry (last m) (set v) ∷ es) (leads_more e x l) = heads_fresh n m v (seek m ms) (added ms es) (less_before n m e) (heads_added n ms es l)
heads_added n ms (entry (down m p) c ∷ es) (leads_more e x l) = heads_added n ms es l

pub added_linked : (ms : Members) (p : Pointer) (c : Change) (es : List Entry) → InOrder (entry p c ∷ es)
    → added ms (entry p c ∷ es) ≡ link (adds ms (entry p c)) (first_part p) (spelled (first_part p)) (added ms es)
added_linked ms (last n) remove es a = refl
added_linked ms (down n p) c es a = refl
added_linked ms (last n) (set v) es (asc_more l a) = go (seek n ms)
  where
    go : (o : Option Property) → fresh o n v (added ms es) ≡ link (freshly o v) n (spelled n) (added ms es)
    go none = first_in n v (added ms es) (heads_added n ms es l)
    go (some p) = refl

-- ---- what an entry adds ----

-- null removes, another value is set
pub change_null : (d : Doc) → kind_of d ≡ 1 → change_of d ≡ remove
change_null (scalar kind token) e = rw (eq-eqb kind 1 e)
change_null (array ms) e = absurd (omega arith)
change_null (object ms) e = absurd (omega arith)

pub change_set : (d : Doc) → (kind_of d ≡ 1 → ⊥) → change_of d ≡ set d
change_set (scalar kind token) ne = rw (ne_eqb kind 1 ne)
change_set (array ms) ne = refl
change_set (object ms) ne = refl

pub adds_down : (ms : Members) (p : Pointer) (c : Change) {n : Name} {q : Pointer} → p ≡ down n q → adds ms (entry p c) ≡ none
adds_down ms p c e = rw e

-- ---- one member, written or not ----

pub passed_none : {old : List ℕ} (s : Pen) {o : Option Doc} {label : List ℕ} → length old < full → o ≡ none → Passed old s o label old s
passed_none s fits e = rw e (record { wrote = wrote_none s.to fits; next = refl })

pub passed_some : {old : List ℕ} {s : Pen} {o : Option Doc} {label : List ℕ} (d : Doc) {one two : List ℕ} {p q hint : ℕ} → o ≡ some d
    → Wrote old s.to (head_of 7 s.first label) one p → Wrote one p (written d) two q → Passed old s o label two (record { to = q; first = false; hint = hint })
passed_some {s = s} {label = label} d e a b = rw e (record { wrote = wrote_then (head_of 7 s.first label) (written d) a b; next = refl })
