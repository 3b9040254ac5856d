-- Each entry has its way: `effect`.
-- Assumes nothing.
use mathlib.Core.Bool.{true≢false}
use mathlib.Core.List.{List}
use mathlib.Core.Option.{Option, none, some, map}
use mathlib.Core.Path.{◌≡◌, ap, ◌∙◌}
use Rattle.laws.proofs.Bools.{by_test}
use Rattle.laws.specs.Order.{same}
use Rattle.laws.proofs.Orders.{same_refl}
use Rattle.text.specs.Doc.{Name, Doc, scalar, array, object, Property, seek}
use Rattle.contact.specs.Pointer.{Pointer, last, down, last_part, within, find}
use Rattle.contact.specs.Patch.{Change, Entry, entry, arrives, onward, walk, is_in_array, is_no_object, mine, under, applied}
use Rattle.contact.specs.Entries.{Apart, ApartFrom, NoClash, ParentsThere, HasEntry, now, past, valued}
use Rattle.contact.proofs.Patching.Names.{same_no}
use Rattle.contact.proofs.Patching.Seek.{over}
use Rattle.contact.proofs.Patching.Applied.{seek_applied}
use Rattle.contact.proofs.Patching.Entries.{under_noclash}
use Rattle.contact.proofs.Patching.Untouched.{mine_none_down}

has_apart : {p : Pointer} {c : Change} {es : List Entry} (q : Pointer) → HasEntry p c es → ApartFrom q es → Apart q p
has_apart q now h = h.0
has_apart q (past {e = entry r c'} x) h = has_apart q x h.1

has_parent : {p : Pointer} {c : Change} {es : List Entry} (d : Doc) → HasEntry p c es → ParentsThere es d → walk p d ≡ arrives
has_parent d now h = h.0
has_parent d (past {e = entry r c'} x) h = has_parent d x h.1

mine_has : (n : Name) {c : Change} {es : List Entry} → HasEntry (last n) c es → NoClash es → mine n es ≡ some c
mine_has n now k = simp (same_refl n)
mine_has n (past {e = entry (last m) c'} x) k = simp (same_no (has_apart (last m) x k.0)) (mine_has n x k.1)
mine_has n (past {e = entry (down m q) c'} x) k = mine_has n x k.1

mine_has_down : (n : Name) {p : Pointer} {c : Change} {es : List Entry} → HasEntry (down n p) c es → NoClash es → mine n es ≡ none
mine_has_down n {p} (now {es = es}) k = mine_none_down n p es k.0
mine_has_down n (past {e = entry (last m) c'} x) k = simp (same_no (has_apart (last m) x k.0)) (mine_has_down n x k.1)
mine_has_down n (past {e = entry (down m q) c'} x) k = mine_has_down n x k.1

under_has : (n : Name) {p : Pointer} {c : Change} {es : List Entry} → HasEntry (down n p) c es → HasEntry p c (under n es)
under_has n now = simp (same_refl n) now
under_has n (past {e = entry (last m) c'} x) = under_has n x
under_has n (past {e = entry (down m q) c'} x) = by_test (same m n) (λ b. simp b (past (under_has n x))) (λ b. simp b (under_has n x))

at_end : (p : Pointer) (c : Change) (d : Doc) (es : List Entry) → NoClash es → HasEntry p c es → walk p d ≡ arrives
    → find p (applied d es) ≡ valued (last_part p) c (find p d)
at_end (last n) c (scalar kind token) es k x w = absurd (true≢false (ap is_no_object w))
at_end (last n) c (array xs) es k x w = absurd (true≢false (ap is_in_array w))
at_end (last n) c (object ms) es k x w = seek_applied n ms es k ∙ simp (mine_has n x k)
at_end (down n p) c (scalar kind token) es k x w = absurd (true≢false (ap is_no_object w))
at_end (down n p) c (array xs) es k x w = absurd (true≢false (ap is_in_array w))
at_end (down n p) c (object ms) es k x w =
    ap (within (find p)) (seek_applied n ms es k) ∙ simp (mine_has_down n x k) (go (seek n ms) w (λ d. at_end p c d (under n es) (under_noclash n es k) (under_has n x)))
  where
    go : (o : Option Property) → onward (walk p) o ≡ arrives
        → ((d : Doc) → walk p d ≡ arrives → find p (applied d (under n es)) ≡ valued (last_part p) c (find p d))
        → within (find p) (map (over (λ d. applied d (under n es))) o) ≡ valued (last_part p) c (within (find p) o)
    go none q ih = absurd (true≢false (ap is_no_object q))
    go (some s) q ih = ih s.content q

pub effect : (p : Pointer) (c : Change) (d : Doc) (es : List Entry) → NoClash es → ParentsThere es d → HasEntry p c es
    → find p (applied d es) ≡ valued (last_part p) c (find p d)
effect p c d es k h x = at_end p c d es k x (has_parent d x h)
