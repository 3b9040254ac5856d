-- What holds of every name and token of a document and of a PatchObject holds of the patched document, if it holds of names that are added:
-- `every_applied`. So each name of it is said by its label: `labels_stay`.
-- Assumes nothing.
use mathlib.Core.List.{List, [], ◌∷◌}
use mathlib.Core.Option.{Option, none, some, none-ne-some, some-injective}
use mathlib.Core.Path.{◌≡◌, subst}
use Prim.Native.Nat.{ℕ}
use lib.Dec.{eqb}
use Rattle.laws.proofs.Bools.{by_test}
use Rattle.laws.specs.Order.{same, before}
use Rattle.text.specs.Text.{bytes}
use Rattle.text.specs.Doc.{Name, Doc, scalar, array, object, Members, empty, member, Property, property, seek}
use Rattle.text.specs.Writing.{spelled}
use Rattle.text.specs.Labels.{Labelled, Every, EveryMember}
use Rattle.text.proofs.NewNames.{label_shortest}
use Rattle.contact.specs.Pointer.{Pointer, last, down, last_part, pointer_of, find}
use Rattle.contact.specs.Patch.{Change, remove, set, Entry, entry, change_of, entries_of, without, mine, under, insert, fresh, added, keep, applied, kept}
use Rattle.contact.specs.Localize.{start}
use Rattle.contact.proofs.Patching.Names.{by_name, same_yes, same_no}
use Rattle.contact.proofs.Patching.Seek.{find_has}
use Rattle.contact.proofs.Patching.Parts.{part_said}
use Rattle.contact.proofs.Patching.Room.{LongEnough}

module _ (N : Name → List ℕ → Type 0) (T : ℕ → List ℕ → Type 0) where
  -- ---- entries

  -- the name that an entry may add, and the value that it sets
  abbrev Sets : Pointer → Change → Type 0
  Sets p remove = Unit {0}
  Sets p (set v) = N (last_part p) (spelled (last_part p)) × Every N T v

  abbrev AllSet : List Entry → Type 0
  AllSet [] = Unit {0}
  AllSet (entry p c ∷ es) = Sets p c × AllSet es

  sets_down : (m : Name) (p : Pointer) (c : Change) → Sets (down m p) c → Sets p c
  sets_down m p remove h = tt
  sets_down m p (set v) h = h

  under_sets : (n : Name) (es : List Entry) → AllSet es → AllSet (under n es)
  under_sets n [] h = tt
  under_sets n (entry (last m) c ∷ es) h = under_sets n es h.1
  under_sets n (entry (down m p) c ∷ es) h =
      by_test (same m n) (λ b. simp b (sets_down m p c h.0, under_sets n es h.1)) (λ b. simp b (under_sets n es h.1))

  abbrev Said : Option Change → Type 0
  Said none = Unit {0}
  Said (some remove) = Unit {0}
  Said (some (set v)) = Every N T v

  said_of : (p : Pointer) (c : Change) → Sets p c → Said (some c)
  said_of p remove h = tt
  said_of p (set v) h = h.1

  mine_said : (n : Name) (es : List Entry) → AllSet es → Said (mine n es)
  mine_said n [] h = tt
  mine_said n (entry (last m) c ∷ es) h = by_test (same m n) (λ b. simp b (said_of (last m) c h.0)) (λ b. simp b (mine_said n es h.1))
  mine_said n (entry (down m p) c ∷ es) h = mine_said n es h.1

  -- ---- all at once

  insert_every : (n : Name) (v : Doc) (ms : Members) → N n (spelled n) → Every N T v → EveryMember N T ms → EveryMember N T (insert n v ms)
  insert_every n v empty a b h = (a, b, tt)
  insert_every n v (member m label d ms) a b h =
      by_test (before n m) (λ x. simp x (a, b, h)) (λ x. simp x (h.0, h.1, insert_every n v ms a b h.2))

  fresh_every : (o : Option Property) (n : Name) (v : Doc) (ms : Members) → N n (spelled n) → Every N T v → EveryMember N T ms → EveryMember N T (fresh o n v ms)
  fresh_every none n v ms a b h = insert_every n v ms a b h
  fresh_every (some s) n v ms a b h = h

  added_every : (ms : Members) (es : List Entry) → AllSet es → EveryMember N T (added ms es)
  added_every ms [] h = tt
  added_every ms (entry (last n) remove ∷ es) h = added_every ms es h.1
  added_every ms (entry (last n) (set v) ∷ es) h = fresh_every (seek n ms) n v (added ms es) h.0.0 h.0.1 (added_every ms es h.1)
  added_every ms (entry (down n p) c ∷ es) h = added_every ms es h.1

  keep_every : (o : Option Change) (n : Name) (label : List ℕ) (d : Doc) (ms : Members) → Said o → N n label → Every N T d → EveryMember N T ms
      → EveryMember N T (keep o n label d ms)
  keep_every none n label d ms s a b h = (a, b, h)
  keep_every (some remove) n label d ms s a b h = h
  keep_every (some (set v)) n label d ms s a b h = (a, s, h)

  mutual
    applied_every : (d : Doc) (es : List Entry) → AllSet es → Every N T d → Every N T (applied d es)
    applied_every (scalar kind token) es k h = h
    applied_every (array xs) es k h = h
    applied_every (object ms) es k h = kept_every ms es (added ms es) k h (added_every ms es k)

    kept_every : (ms : Members) (es : List Entry) (more : Members) → AllSet es → EveryMember N T ms → EveryMember N T more → EveryMember N T (kept ms es more)
    kept_every empty es more k h hs = hs
    kept_every (member n label d ms) es more k h hs =
        keep_every (mine n es) n label (applied d (under n es)) (kept ms es more) (mine_said n es k) h.0
        (applied_every d (under n es) (under_sets n es k) h.1) (kept_every ms es more k h.2 hs)

  -- ---- the starting card, and what is found in a card

  without_every : (n : Name) (ms : Members) → EveryMember N T ms → EveryMember N T (without n ms)
  without_every n empty h = tt
  without_every n (member m label d ms) h =
      by_test (same m n) (λ b. simp b (without_every n ms h.2)) (λ b. simp b (h.0, h.1, without_every n ms h.2))

  pub start_every : (card : Doc) → Every N T card → Every N T (start card)
  start_every (scalar kind token) h = h
  start_every (array xs) h = h
  start_every (object ms) h = without_every (bytes "localizations") ms h

  seek_every : (n : Name) (ms : Members) (s : Property) → EveryMember N T ms → seek n ms ≡ some s → Every N T s.content
  seek_every n empty s h e = absurd (none-ne-some s e)
  seek_every n (member m label d ms) s h e =
      by_name m n
      (λ q. subst (λ (r : Property). Every N T r.content) (some-injective (property label d) s (simp (same_yes q) at e)) h.1)
      (λ ne. seek_every n ms s h.2 (simp (same_no ne) at e))

  pub find_every : (p : Pointer) (d : Doc) (s : Property) → Every N T d → find p d ≡ some s → Every N T s.content
  find_every p d s h e = find_has (Every N T) seek_every p d s h e

  -- ---- the theorem

  module _ (named : (key : Name) (label : List ℕ) → N key label → N (last_part (pointer_of key)) (spelled (last_part (pointer_of key)))) where
    change_sets : (key : Name) (label : List ℕ) (d : Doc) → N key label → Every N T d → Sets (pointer_of key) (change_of d)
    change_sets key label (scalar kind token) n h = by_test (eqb kind 1) (λ b. simp b tt) (λ b. simp b (named key label n, h))
    change_sets key label (array xs) n h = (named key label n, h)
    change_sets key label (object ms) n h = (named key label n, h)

    entries_set : (ms : Members) → EveryMember N T ms → AllSet (entries_of ms)
    entries_set empty h = tt
    entries_set (member key label d ms) h = (change_sets key label d h.0 h.1, entries_set ms h.2)

    pub every_applied : (d : Doc) (ms : Members) → EveryMember N T ms → Every N T d → Every N T (applied d (entries_of ms))
    every_applied d ms k h = applied_every d (entries_of ms) (entries_set ms k) h

-- ---- labels

-- each name of a patched document is said by its label
pub labels_stay : (T : ℕ → List ℕ → Type 0) (d : Doc) (ms : Members) → EveryMember Labelled T ms → Every Labelled T d
    → Every Labelled T (applied d (entries_of ms))
labels_stay T d ms k h = every_applied Labelled T part_said d ms k h

-- names are written long enough
pub labels_long : (T : ℕ → List ℕ → Type 0) (ms : Members) → EveryMember Labelled T ms → LongEnough ms
labels_long T empty k = tt
labels_long T (member n label d ms) k = (label_shortest k.0, labels_long T ms k.2)
