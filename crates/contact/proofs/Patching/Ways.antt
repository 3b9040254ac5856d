-- 25 and 26 in words: where the walk along a pointer ends. And what a pointer finds in words: the property that it points at (`find_iff`).
-- Assumes nothing.
use mathlib.Core.Path.{◌≡◌, refl, sym, ap, ◌∙◌}
use mathlib.Core.Bool.{true, true≢false}
use mathlib.Core.Logic.{◌↔◌}
use mathlib.Core.List.{List, [], ◌∷◌, ◌++◌, head-eq_of_cons-eq, tail-eq_of_cons-eq}
use mathlib.Core.Option.{Option, none, some, none-ne-some}
use Prim.Native.Nat.{ℕ}
use native.Mathlib.Omega.{arith}
use Rattle.text.specs.Doc.{Name, Doc, scalar, array, object, Members, Property, seek}
use Rattle.contact.specs.Pointer.{Pointer, last, down, parts, within, find}
use Rattle.contact.specs.Patch.{Walk, arrives, in_array, no_object, onward, walk, is_in_array, is_no_object}
use Rattle.contact.specs.Conditions.{Leads, here, into, Reaches, PointsAt, at_last, EntersArray, reached, LosesWay, at_scalar, no_member_there}
use Rattle.contact.proofs.Members.{has_seek, seek_has, seek_lacks, lacks_seek}

-- ---- a part further

reaches_on : {p : Pointer} {x : Doc} {n : Name} {left : List Name} (m : Name) (ms : Members) (s : Property) → seek m ms ≡ some s
    → Reaches p s.content x n left → Reaches (down m p) (object ms) x n left
reaches_on m ms s e r = record { way = m ∷ r.way; split = ap (λ (k : List Name). m ∷ k) r.split; leads = into (s.label, seek_has m ms s e) r.leads }

enters_on : (p : Pointer) (m : Name) (ms : Members) (s : Property) → seek m ms ≡ some s → EntersArray p s.content → EntersArray (down m p) (object ms)
enters_on p m ms s e (reached r) = reached (reaches_on m ms s e r)

loses_on : (p : Pointer) (m : Name) (ms : Members) (s : Property) → seek m ms ≡ some s → LosesWay p s.content → LosesWay (down m p) (object ms)
loses_on p m ms s e (at_scalar r) = at_scalar (reaches_on m ms s e r)
loses_on p m ms s e (no_member_there r k) = no_member_there (reaches_on m ms s e r) k

-- ---- from the walk

at_root : (p : Pointer) (d : Doc) (n : Name) (left : List Name) → parts p ≡ n ∷ left → Reaches p d d n left
at_root p d n left e = record { way = []; split = e; leads = here }

to_array : (p : Pointer) (d : Doc) → walk p d ≡ in_array → EntersArray p d
to_array (last n) (scalar k t) h = absurd (true≢false (ap is_no_object h))
to_array (last n) (array xs) h = reached (at_root (last n) (array xs) n [] refl)
to_array (last n) (object ms) h = absurd (true≢false (sym (ap is_in_array h)))
to_array (down n p) (scalar k t) h = absurd (true≢false (ap is_no_object h))
to_array (down n p) (array xs) h = reached (at_root (down n p) (array xs) n (parts p) refl)
to_array (down n p) (object ms) h = go (seek n ms) refl h (λ d. to_array p d)
  where
    go : (o : Option Property) → seek n ms ≡ o → onward (walk p) o ≡ in_array → ((d : Doc) → walk p d ≡ in_array → EntersArray p d) → EntersArray (down n p) (object ms)
    go none e k ih = absurd (true≢false (ap is_no_object k))
    go (some s) e k ih = enters_on p n ms s e (ih s.content k)

to_lost : (p : Pointer) (d : Doc) → walk p d ≡ no_object → LosesWay p d
to_lost (last n) (scalar k t) h = at_scalar (at_root (last n) (scalar k t) n [] refl)
to_lost (last n) (array xs) h = absurd (true≢false (ap is_in_array h))
to_lost (last n) (object ms) h = absurd (true≢false (sym (ap is_no_object h)))
to_lost (down n p) (scalar k t) h = at_scalar (at_root (down n p) (scalar k t) n (parts p) refl)
to_lost (down n p) (array xs) h = absurd (true≢false (ap is_in_array h))
to_lost (down n p) (object ms) h = go (seek n ms) refl h (λ d. to_lost p d)
  where
    lacks : (q : Pointer) → seek n ms ≡ none → LosesWay (down n q) (object ms)
    lacks (last m) e = no_member_there (at_root (down n (last m)) (object ms) n (m ∷ []) refl) (seek_lacks n ms e)
    lacks (down m q) e = no_member_there (at_root (down n (down m q)) (object ms) n (m ∷ parts q) refl) (seek_lacks n ms e)

    go : (o : Option Property) → seek n ms ≡ o → onward (walk p) o ≡ no_object → ((d : Doc) → walk p d ≡ no_object → LosesWay p d) → LosesWay (down n p) (object ms)
    go none e k ih = lacks p e
    go (some s) e k ih = loses_on p n ms s e (ih s.content k)

-- ---- to the walk: it goes the way of the parts, and what it does there it does in all

-- a list that ends in something is not empty
not_empty : (ns : List Name) (n : Name) (left : List Name) → [] ≡ ns ++ (n ∷ left) → ⊥
not_empty [] n left e = let z : ◌≡◌ {A = ℕ} 0 1 = cc in omega arith
not_empty (m ∷ ns) n left e = let z : ◌≡◌ {A = ℕ} 0 1 = cc in omega arith

-- the pointer that is left at the value reached, where the walk goes on
record PointerLeft (p : Pointer) (d x : Doc) (n : Name) (left : List Name) : Type 0 where
  rest : Pointer
  has : parts rest ≡ n ∷ left
  on : walk p d ≡ walk rest x

follow : {way : List Name} {d x : Doc} → Leads way d x → (p : Pointer) (n : Name) (left : List Name) → parts p ≡ way ++ (n ∷ left) → PointerLeft p d x n left
follow here p n left e = record { rest = p; has = e; on = refl }
follow (into {n = m} {ns = ns} k l) (last m') n left e = absurd (not_empty ns n left (tail-eq_of_cons-eq e))
follow (into {n = m} {ns = ns} {ms = ms} (label, k) l) (down m' p) n left e =
    let r = follow l p n left (tail-eq_of_cons-eq e) in
    record { rest = r.rest; has = r.has; on = ap (λ (j : Name). onward (walk p) (seek j ms)) (head-eq_of_cons-eq e) ∙ ap (onward (walk p)) (has_seek k) ∙ r.on }

walk_array : (q : Pointer) (ms : Members) → walk q (array ms) ≡ in_array
walk_array (last n) ms = refl
walk_array (down n q) ms = refl

walk_scalar : (q : Pointer) (k : ℕ) (t : List ℕ) → walk q (scalar k t) ≡ no_object
walk_scalar (last n) k t = refl
walk_scalar (down n q) k t = refl

walk_lacking : (q : Pointer) (ms : Members) (n m : Name) (left : List Name) → parts q ≡ n ∷ m ∷ left → seek n ms ≡ none → walk q (object ms) ≡ no_object
walk_lacking (last n') ms n m left e k = absurd (not_empty [] m left (tail-eq_of_cons-eq e))
walk_lacking (down n' q) ms n m left e k = ap (λ (j : Name). onward (walk q) (seek j ms)) (head-eq_of_cons-eq e) ∙ ap (onward (walk q)) k

from_array : (p : Pointer) (d : Doc) → EntersArray p d → walk p d ≡ in_array
from_array p d (reached {ms = ms} {n = n} {left = left} r) =
    let l = follow r.leads p n left r.split in l.on ∙ walk_array l.rest ms

from_lost : (p : Pointer) (d : Doc) → LosesWay p d → walk p d ≡ no_object
from_lost p d (at_scalar {kind = kind} {token = token} {n = n} {left = left} r) =
    let l = follow r.leads p n left r.split in l.on ∙ walk_scalar l.rest kind token
from_lost p d (no_member_there {ms = ms} {n = n} {m = m} {left = left} r k) =
    let l = follow r.leads p n (m ∷ left) r.split in l.on ∙ walk_lacking l.rest ms n m left l.has (lacks_seek n ms k)

-- ---- by the tests

in_array_case : (w : Walk) → is_in_array w ≡ true → w ≡ in_array
in_array_case arrives e = absurd (true≢false (sym e))
in_array_case in_array e = refl
in_array_case no_object e = absurd (true≢false (sym e))

no_object_case : (w : Walk) → is_no_object w ≡ true → w ≡ no_object
no_object_case arrives e = absurd (true≢false (sym e))
no_object_case in_array e = absurd (true≢false (sym e))
no_object_case no_object e = refl

pub array_test : (p : Pointer) (d : Doc) → (is_in_array (walk p d) ≡ true) ↔ EntersArray p d
array_test p d = (λ e. to_array p d (in_array_case (walk p d) e), λ h. ap is_in_array (from_array p d h))

pub lost_test : (p : Pointer) (d : Doc) → (is_no_object (walk p d) ≡ true) ↔ LosesWay p d
lost_test p d = (λ e. to_lost p d (no_object_case (walk p d) e), λ h. ap is_no_object (from_lost p d h))

-- ---- what is found

points_on : (m : Name) (p : Pointer) (ms : Members) (s x : Property) → seek m ms ≡ some s → PointsAt p s.content x → PointsAt (down m p) (object ms) x
points_on m p ms s x e (at_last r h) = at_last (reaches_on m ms s e r) h

to_found : (p : Pointer) (d : Doc) (x : Property) → find p d ≡ some x → PointsAt p d x
to_found (last n) (scalar k t) x e = absurd (none-ne-some x e)
to_found (last n) (array xs) x e = absurd (none-ne-some x e)
to_found (last n) (object ms) x e = at_last (at_root (last n) (object ms) n [] refl) (seek_has n ms x e)
to_found (down n p) (scalar k t) x e = absurd (none-ne-some x e)
to_found (down n p) (array xs) x e = absurd (none-ne-some x e)
to_found (down n p) (object ms) x e = go (seek n ms) refl e (λ d. to_found p d x)
  where
    go : (o : Option Property) → seek n ms ≡ o → within (find p) o ≡ some x → ((d : Doc) → find p d ≡ some x → PointsAt p d x) → PointsAt (down n p) (object ms) x
    go none q k ih = absurd (none-ne-some x k)
    go (some s) q k ih = points_on n p ms s x q (ih s.content k)

-- a pointer has a part
some_part : (p : Pointer) → parts p ≡ [] → ⊥
some_part (last n) e = let z : ◌≡◌ {A = ℕ} 0 1 = cc in omega arith
some_part (down n p) e = let z : ◌≡◌ {A = ℕ} 0 1 = cc in omega arith

find_led : {way : List Name} {d : Doc} {ms : Members} → Leads way d (object ms) → (p : Pointer) (n : Name) → parts p ≡ way ++ (n ∷ []) → find p d ≡ seek n ms
find_led {ms = ms} here (last m) n e = ap (λ (j : Name). seek j ms) (head-eq_of_cons-eq e)
find_led here (down m p) n e = absurd (some_part p (tail-eq_of_cons-eq e))
find_led (into {ns = ns} k l) (last m) n e = absurd (not_empty ns n [] (tail-eq_of_cons-eq e))
find_led (into {ms = os} (label, k) l) (down m p) n e =
    ap (λ (j : Name). within (find p) (seek j os)) (head-eq_of_cons-eq e) ∙ ap (within (find p)) (has_seek k) ∙ find_led l p n (tail-eq_of_cons-eq e)

from_found : (p : Pointer) (d : Doc) (x : Property) → PointsAt p d x → find p d ≡ some x
from_found p d x (at_last {n = n} r h) = find_led r.leads p n r.split ∙ has_seek h

pub find_iff : (p : Pointer) (d : Doc) (x : Property) → (find p d ≡ some x) ↔ PointsAt p d x
find_iff p d x = (to_found p d x, from_found p d x)
