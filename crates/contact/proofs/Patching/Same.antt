-- `SameDoc`, by the members: two objects are the same if their members are alike.
-- Assumes nothing.
use mathlib.Core.Option.{Option, none, some, map}
use mathlib.Core.Path.{◌≡◌, refl, ◌∙◌}
use Rattle.text.specs.Doc.{Name, Doc, object, Members, Property, seek}
use Rattle.contact.specs.Pointer.{Pointer, last, down, within, find}
use Rattle.contact.proofs.Patching.Looking.{there, seen, look, SameDoc}
use Rattle.contact.proofs.Patching.Seek.{over}

pub likeness_refl : (d : Doc) → SameDoc d d
likeness_refl d = record { root = refl; below = λ p. refl }

pub likeness_trans : {d e f : Doc} → SameDoc d e → SameDoc e f → SameDoc d f
likeness_trans s t = record { root = s.root ∙ t.root; below = λ p. s.below p ∙ t.below p }

-- two properties alike: both absent, or written with one name and with the same value
pub data Alike : Option Property → Option Property → Type 0 where
  neither : Alike none none
  both : {s t : Property} → s.label ≡ t.label → SameDoc s.content t.content → Alike (some s) (some t)

pub alike_refl : (o : Option Property) → Alike o o
alike_refl none = neither
alike_refl (some s) = both refl (likeness_refl s.content)

alike_seen : {o q : Option Property} → Alike o q → seen o ≡ seen q
alike_seen neither = refl
alike_seen (both e s) = λ i. there (e i) (s.root i)

alike_within : {o q : Option Property} (p : Pointer) → Alike o q → seen (within (find p) o) ≡ seen (within (find p) q)
alike_within p neither = refl
alike_within p (both e s) = s.below p

pub same_object : (ms ns : Members) → ((n : Name) → Alike (seek n ms) (seek n ns)) → SameDoc (object ms) (object ns)
same_object ms ns h = record { root = refl; below = go }
  where
    go : (p : Pointer) → look p (object ms) ≡ look p (object ns)
    go (last n) = alike_seen (h n)
    go (down n p) = alike_within p (h n)

pub alike : {o q o' q' : Option Property} → o ≡ o' → q ≡ q' → Alike o' q' → Alike o q
alike e f h = rw (e, f) h

pub alike_over : (f g h : Doc → Doc) (o : Option Property) → ((d : Doc) → SameDoc (g (f d)) (h d))
    → Alike (map (over g) (map (over f) o)) (map (over h) o)
alike_over f g h none s = neither
alike_over f g h (some t) s = both refl (s t.content)
