-- Where members stand after patching: `laid_root` in the object itself, `laid_below` in each object that no entry names or covers.
-- Assumes nothing.
use mathlib.Core.List.{List, [], ◌∷◌}
use mathlib.Core.Option.{Option, none, some, none-ne-some}
use mathlib.Core.Path.{◌≡◌, refl, sym, ap, ap₂, ◌∙◌}
use Prim.Native.Nat.{ℕ}
use Rattle.laws.proofs.Bools.{by_test}
use Rattle.laws.specs.Order.{before}
use Rattle.text.specs.Doc.{Name, Doc, scalar, array, object, Members, empty, member, Property, property, seek}
use Rattle.contact.specs.Pointer.{Pointer, last, down, parts, within, find}
use Rattle.contact.specs.Patch.{Change, remove, set, Entry, entry, mine, under, insert, fresh, added, keep, applied, kept}
use Rattle.contact.specs.BetweenMembers.{HasMember}
use Rattle.contact.specs.Entries.{NoClash, New, Laid, stays, goes, adds, NotOver, LaidAt}
use Rattle.contact.proofs.Patching.Names.{by_name, same_yes, same_no}
use Rattle.contact.proofs.Patching.Applied.{seek_applied}
use Rattle.contact.proofs.Patching.Entries.{under_noclash}
use Rattle.contact.proofs.Members.{seek_lacks}
use Rattle.contact.proofs.Patching.Ascending.{added_ascending}

-- ---- in one object

module _ (all : Members) where
  new_insert : (n : Name) (v : Doc) (ms : Members) → ((e : Doc) → ¬ HasMember all n e) → New all ms → New all (insert n v ms)
  new_insert n v empty e h = (e, refl, tt)
  new_insert n v (member m label d ms) e h =
      by_test (before n m) (λ b. simp b (e, refl, h)) (λ b. simp b (h.0, h.1, new_insert n v ms e h.2))

  new_added : (es : List Entry) → New all (added all es)
  new_added [] = tt
  new_added (entry (last n) remove ∷ es) = new_added es
  new_added (entry (last n) (set v) ∷ es) = go (seek n all) refl (new_added es)
    where
      go : (o : Option Property) → seek n all ≡ o → New all (added all es) → New all (fresh o n v (added all es))
      go none e ih = new_insert n v (added all es) (seek_lacks n all e) ih
      go (some s) e ih = ih
  new_added (entry (down n p) c ∷ es) = new_added es

  laid_keep : (o : Option Change) (n : Name) (label : List ℕ) (d e : Doc) (ms ns : Members) → Laid all ms ns → Laid all (member n label d ms) (keep o n label e ns)
  laid_keep none n label d e ms ns h = stays h
  laid_keep (some remove) n label d e ms ns h = goes h
  laid_keep (some (set v)) n label d e ms ns h = stays h

  laid_kept : (ms : Members) (es : List Entry) (more : Members) → Laid all empty more → Laid all ms (kept ms es more)
  laid_kept empty es more h = h
  laid_kept (member n label d ms) es more h =
      laid_keep (mine n es) n label d (applied d (under n es)) ms (kept ms es more) (laid_kept ms es more h)

pub laid_root : (ms : Members) (es : List Entry) → NoClash es → Laid ms ms (kept ms es (added ms es))
laid_root ms es k = laid_kept ms ms es (added ms es) (adds (added_ascending ms es k) (new_added ms es))

-- ---- in the objects below

-- no entry names what stands at the pointer's first part
over_mine : (n : Name) (p : Pointer) (r : List Name) (es : List Entry) → parts p ≡ n ∷ r → NotOver p es → mine n es ≡ none
over_mine n p r [] e h = refl
over_mine n p r (entry (last m) c ∷ es) e h =
    simp (same_no (λ (q : m ≡ n). h.0 (r, e ∙ ap (λ (x : Name). x ∷ r) (sym q)))) (over_mine n p r es e h.1)
over_mine n p r (entry (down m q) c ∷ es) e h = over_mine n p r es e h.1

over_under : (n : Name) (p : Pointer) (es : List Entry) → NotOver (down n p) es → NotOver p (under n es)
over_under n p [] h = tt
over_under n p (entry (last m) c ∷ es) h = over_under n p es h.1
over_under n p (entry (down m q) c ∷ es) h =
    by_name m n
    (λ e. simp (same_yes e) (λ x. h.0 (x.0, ap₂ ◌∷◌ (sym e) x.1), over_under n p es h.1))
    (λ ne. simp (same_no ne) (over_under n p es h.1))

pub laid_below : (p : Pointer) (d : Doc) (es : List Entry) (label : List ℕ) (ms : Members) → NoClash es → NotOver p es
    → find p d ≡ some (property label (object ms)) → LaidAt p label ms (applied d es)
laid_below (last n) (scalar k t) es label ms nc h e = absurd (none-ne-some (property label (object ms)) e)
laid_below (last n) (array xs) es label ms nc h e = absurd (none-ne-some (property label (object ms)) e)
laid_below (last n) (object os) es label ms nc h e = record {
  members = kept ms (under n es) (added ms (under n es));
  found = seek_applied n os es nc ∙ simp (over_mine n (last n) [] es refl h, e);
  laid = laid_root ms (under n es) (under_noclash n es nc);
}
laid_below (down n p) (scalar k t) es label ms nc h e = absurd (none-ne-some (property label (object ms)) e)
laid_below (down n p) (array xs) es label ms nc h e = absurd (none-ne-some (property label (object ms)) e)
laid_below (down n p) (object os) es label ms nc h e =
    go (seek n os) refl e (λ d. laid_below p d (under n es) label ms (under_noclash n es nc) (over_under n p es h))
  where
    go : (o : Option Property) → seek n os ≡ o → within (find p) o ≡ some (property label (object ms))
        → ((d : Doc) → find p d ≡ some (property label (object ms)) → LaidAt p label ms (applied d (under n es)))
        → LaidAt (down n p) label ms (object (kept os es (added os es)))
    go none q k ih = absurd (none-ne-some (property label (object ms)) k)
    go (some s) q k ih =
        let r = ih s.content k in
        record {
          members = r.members;
          found = ap (within (find p)) (seek_applied n os es nc) ∙ simp (over_mine n (down n p) (parts p) es refl h, q) r.found;
          laid = r.laid;
        }
