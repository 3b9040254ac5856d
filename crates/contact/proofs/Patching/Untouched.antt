-- A property that no pointer names, enters or covers stays as it was: `untouched`.
-- Assumes nothing.
use mathlib.Core.List.{List, [], ◌∷◌}
use mathlib.Core.Option.{Option, none, some, map}
use mathlib.Core.Path.{◌≡◌, refl, sym, ap, ◌∙◌}
use Rattle.text.specs.Doc.{Name, Doc, scalar, array, object, Members, empty, member, Property, property, seek}
use Rattle.contact.specs.Pointer.{Pointer, last, down, within, find}
use Rattle.contact.specs.Patch.{Entry, entry, mine, under, applied, kept}
use Rattle.contact.specs.Entries.{ApartFrom, NoClash}
use Rattle.contact.proofs.Patching.Names.{same_no}
use Rattle.contact.proofs.Patching.Seek.{over}
use Rattle.contact.proofs.Patching.Applied.{mine_none, seek_applied}
use Rattle.contact.proofs.Patching.Entries.{under_apart, under_noclash}

-- no entries: nothing changes
mutual
  pub applied_nil : (d : Doc) → applied d [] ≡ d
  applied_nil (scalar kind token) = refl
  applied_nil (array xs) = refl
  applied_nil (object ms) = ap object (kept_nil ms)

  kept_nil : (ms : Members) → kept ms [] empty ≡ ms
  kept_nil empty = refl
  kept_nil (member n t d ms) = λ i. member n t (applied_nil d i) (kept_nil ms i)

-- no entry enters n where an entry names it, or none names or enters it
pub under_none : (n : Name) (es : List Entry) → ApartFrom (last n) es → under n es ≡ []
under_none n [] h = refl
under_none n (entry (last m) c ∷ es) h = under_none n es h.1
under_none n (entry (down m p) c ∷ es) h = simp (same_no (λ (e : m ≡ n). h.0 (sym e))) (under_none n es h.1)

-- no entry names n where an entry enters it
pub mine_none_down : (n : Name) (p : Pointer) (es : List Entry) → ApartFrom (down n p) es → mine n es ≡ none
mine_none_down n p [] h = refl
mine_none_down n p (entry (last m) c ∷ es) h = simp (same_no (λ (e : m ≡ n). h.0 (sym e))) (mine_none_down n p es h.1)
mine_none_down n p (entry (down m q) c ∷ es) h = mine_none_down n p es h.1

pub over_nil : (o : Option Property) → map (over (λ d. applied d [])) o ≡ o
over_nil none = refl
over_nil (some s) = ap (λ (d : Doc). some (property s.label d)) (applied_nil s.content)

pub untouched : (p : Pointer) (d : Doc) (es : List Entry) → NoClash es → ApartFrom p es → find p (applied d es) ≡ find p d
untouched (last n) (scalar kind token) es k h = refl
untouched (last n) (array xs) es k h = refl
untouched (last n) (object ms) es k h = seek_applied n ms es k ∙ simp (mine_none n es h, under_none n es h) (over_nil (seek n ms))
untouched (down n p) (scalar kind token) es k h = refl
untouched (down n p) (array xs) es k h = refl
untouched (down n p) (object ms) es k h =
    ap (within (find p)) (seek_applied n ms es k) ∙ simp (mine_none_down n p es h) (go (seek n ms) (λ d. untouched p d (under n es) (under_noclash n es k) (under_apart n p es h)))
  where
    go : (o : Option Property) → ((d : Doc) → find p (applied d (under n es)) ≡ find p d)
        → within (find p) (map (over (λ d. applied d (under n es))) o) ≡ within (find p) o
    go none ih = refl
    go (some s) ih = ih s.content
