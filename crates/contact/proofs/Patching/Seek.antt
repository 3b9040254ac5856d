-- What `seek` finds in a changed object.
-- Assumes nothing.
use mathlib.Core.Logic.{◌≢◌}
use mathlib.Core.Option.{Option, none, some, map, none-ne-some}
use mathlib.Core.Path.{◌≡◌, refl, sym, ◌∙◌}
use Rattle.laws.proofs.Orders.{same_refl}
use Rattle.text.specs.Doc.{Name, Doc, scalar, array, object, Members, empty, member, Property, property, seek}
use Rattle.contact.specs.Pointer.{Pointer, last, down, within, find}
use Rattle.contact.specs.Patch.{Change, remove, set, write, without, put, alter}
use Rattle.contact.specs.Entries.{label_of, valued}
use Rattle.contact.proofs.Patching.Names.{same_yes, same_no, by_name}

seek_write_same : (n : Name) (v : Doc) (ms : Members) → seek n (write n v ms) ≡ some (property (label_of n (seek n ms)) v)
seek_write_same n v empty = simp same_refl
seek_write_same n v (member m t d ms) =
    by_name m n (λ e. simp (same_yes e)) (λ ne. simp (same_no ne) (seek_write_same n v ms))

pub seek_write_other : (n k : Name) (v : Doc) (ms : Members) → n ≢ k → seek k (write n v ms) ≡ seek k ms
seek_write_other n k v empty h = simp (same_no h)
seek_write_other n k v (member m t d ms) h =
    by_name m n
    (λ e. simp (same_yes e, same_no (λ (p : m ≡ k). h (sym e ∙ p))))
    (λ ne. simp (same_no ne, seek_write_other n k v ms h))

pub seek_without_same : (n : Name) (ms : Members) → seek n (without n ms) ≡ none
seek_without_same n empty = refl
seek_without_same n (member m t d ms) =
    by_name m n (λ e. simp (same_yes e) (seek_without_same n ms)) (λ ne. simp (same_no ne) (seek_without_same n ms))

pub seek_without_other : (n k : Name) (ms : Members) → n ≢ k → seek k (without n ms) ≡ seek k ms
seek_without_other n k empty h = refl
seek_without_other n k (member m t d ms) h =
    by_name m n
    (λ e. simp (same_yes e, same_no (λ (p : m ≡ k). h (sym e ∙ p))) (seek_without_other n k ms h))
    (λ ne. simp (same_no ne, seek_without_other n k ms h))

pub seek_put_same : (n : Name) (c : Change) (ms : Members) → seek n (put n c ms) ≡ valued n c (seek n ms)
seek_put_same n remove ms = seek_without_same n ms
seek_put_same n (set v) ms = seek_write_same n v ms

pub seek_put_other : (n k : Name) (c : Change) (ms : Members) → n ≢ k → seek k (put n c ms) ≡ seek k ms
seek_put_other n k remove ms h = seek_without_other n k ms h
seek_put_other n k (set v) ms h = seek_write_other n k v ms h

-- a property whose value is changed
abbrev pub over : (Doc → Doc) → Property → Property
over f s = property s.label (f s.content)

pub seek_alter_same : (n : Name) (f : Doc → Doc) (ms : Members) → seek n (alter n f ms) ≡ map (over f) (seek n ms)
seek_alter_same n f empty = refl
seek_alter_same n f (member m t d ms) =
    by_name m n (λ e. simp (same_yes e)) (λ ne. simp (same_no ne) (seek_alter_same n f ms))

pub seek_alter_other : (n k : Name) (f : Doc → Doc) (ms : Members) → n ≢ k → seek k (alter n f ms) ≡ seek k ms
seek_alter_other n k f empty h = refl
seek_alter_other n k f (member m t d ms) h =
    by_name m n
    (λ e. simp (same_yes e, same_no (λ (p : m ≡ k). h (sym e ∙ p))))
    (λ ne. simp (same_no ne, seek_alter_other n k f ms h))

-- what every member's value has if its object has it, a value that is found has
pub find_has : (P : Doc → Type 0) → ((n : Name) (ms : Members) (s : Property) → P (object ms) → seek n ms ≡ some s → P s.content)
    → (p : Pointer) (d : Doc) (s : Property) → P d → find p d ≡ some s → P s.content
find_has P k (last n) (scalar kind token) s h e = absurd (none-ne-some s e)
find_has P k (last n) (array xs) s h e = absurd (none-ne-some s e)
find_has P k (last n) (object ms) s h e = k n ms s h e
find_has P k (down n p) (scalar kind token) s h e = absurd (none-ne-some s e)
find_has P k (down n p) (array xs) s h e = absurd (none-ne-some s e)
find_has P k (down n p) (object ms) s h e = go (seek n ms) refl e (λ d. find_has P k p d s)
  where
    go : (o : Option Property) → seek n ms ≡ o → within (find p) o ≡ some s → ((d : Doc) → P d → find p d ≡ some s → P s.content) → P s.content
    go none q r ih = absurd (none-ne-some s r)
    go (some x) q r ih = ih x.content (k n ms x h q) r
