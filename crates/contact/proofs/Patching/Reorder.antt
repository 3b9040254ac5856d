-- Documents with distinct names that look the same at every pointer differ in the order of members only: `same_reordered`.
-- Assumes nothing.
use mathlib.Core.Bool.{Bool, true, false, true≢false}
use mathlib.Core.List.{List}
use mathlib.Core.Option.{Option, none, some}
use mathlib.Core.Path.{◌≡◌, refl, sym, ap, ◌∙◌, subst}
use Prim.Native.Nat.{ℕ}
use Rattle.laws.proofs.Orders.{same_refl}
use Rattle.text.specs.Doc.{Name, Doc, scalar, array, object, Members, empty, member, Property, property, seek}
use Rattle.text.specs.Distinct.{Distinct, DistinctMembers}
use Rattle.text.specs.Sameness.{counted, free, Taken, scalars, arrays, objects, Matched, nothing, match, EqualToken, EqualLabel}
use Rattle.text.proofs.Sameness.{matched_equal}
use Rattle.text.proofs.Taken.{take_out, taken_other, taken_same, taken_value, taken_rest}
use Rattle.contact.specs.Pointer.{Pointer, last, down, within, find}
use Rattle.contact.specs.Likeness.{Reordered}
use Rattle.contact.proofs.Patching.Looking.{Shape, a_scalar, an_array, an_object, shape, Look, absent, there, seen, look, SameDoc}
use Rattle.contact.proofs.Patching.Names.{same_no, by_name}

-- ---- the theorem

-- the shapes of two documents
abbrev Code : Shape → Shape → Type 0
Code (a_scalar k b) (a_scalar l c) = (k ≡ l) × (b ≡ c)
Code (a_scalar k b) (an_array c) = ⊥
Code (a_scalar k b) an_object = ⊥
Code (an_array b) (a_scalar l c) = ⊥
Code (an_array b) (an_array c) = b ≡ c
Code (an_array b) an_object = ⊥
Code an_object (a_scalar l c) = ⊥
Code an_object (an_array c) = ⊥
Code an_object an_object = Unit {0}

code_refl : (x : Shape) → Code x x
code_refl (a_scalar k b) = (refl, refl)
code_refl (an_array b) = refl
code_refl an_object = tt

coded : (x y : Shape) → x ≡ y → Code x y
coded x y e = subst (Code x) e (code_refl x)

abbrev is_there : Look → Bool
is_there absent = false
is_there (there t x) = true

-- what is seen is found
found : (t : List ℕ) (x : Shape) (o : Option Property) → there t x ≡ seen o → (e : Doc) × (o ≡ some (property t e)) × (x ≡ shape e)
found t x none h = absurd (true≢false (ap is_there h))
found t x (some r) h =
    let q : t ≡ r.label = cc in
    let y : x ≡ shape r.content = cc in
    (r.content, ap (λ (u : List ℕ). some (property u r.content)) (sym q), y)

-- with one member taken out of either, what is left still looks the same
module _ (n : Name) (t : List ℕ) (d e : Doc) (ms ns rest : Members) (x : Taken n t e free ns rest) (h : seek n ms ≡ none) (k : DistinctMembers ns) where
  rest_same : (m : Name) (g : Option Property → Look) → g (seek m (member n t d ms)) ≡ g (seek m ns) → g (seek m ms) ≡ g (seek m rest)
  rest_same m g s =
      by_name n m
      (λ q. rw (← q) (ap g (h ∙ sym (taken_same n x k))))
      (λ ne. (simp (same_no ne) at s) ∙ ap g (taken_other n m x ne))

  rest_look : ((p : Pointer) → look p (object (member n t d ms)) ≡ look p (object ns)) → (p : Pointer) → look p (object ms) ≡ look p (object rest)
  rest_look s (last m) = rest_same m seen (s (last m))
  rest_look s (down m p) = rest_same m (λ o. seen (within (find p) o)) (s (down m p))

mutual
  pub same_reordered : (d e : Doc) → Distinct d → Distinct e → SameDoc d e → Reordered d e
  same_reordered (scalar k b) (scalar l c) dd de s =
      let h = coded (a_scalar k b) (a_scalar l c) s.root in scalars (record { kinds = h.0; tokens = h.1 })
  same_reordered (scalar k b) (array ys) dd de s = absurd (coded (a_scalar k b) (an_array ys) s.root)
  same_reordered (scalar k b) (object ns) dd de s = absurd (coded (a_scalar k b) an_object s.root)
  same_reordered (array xs) (scalar l c) dd de s = absurd (coded (an_array xs) (a_scalar l c) s.root)
  same_reordered (array xs) (array ys) dd de s = arrays ((matched_equal xs ys).1 (coded (an_array xs) (an_array ys) s.root))
  same_reordered (array xs) (object ns) dd de s = absurd (coded (an_array xs) an_object s.root)
  same_reordered (object ms) (scalar l c) dd de s = absurd (coded an_object (a_scalar l c) s.root)
  same_reordered (object ms) (array ys) dd de s = absurd (coded an_object (an_array ys) s.root)
  same_reordered (object ms) (object ns) h k s = objects (matched ms ns h k s.below)

  matched : (ms ns : Members) → DistinctMembers ms → DistinctMembers ns → ((p : Pointer) → look p (object ms) ≡ look p (object ns))
      → Matched EqualToken EqualLabel counted free free ms ns
  matched empty empty h k s = nothing
  matched empty (member n t d ns) h k s = absurd (true≢false (sym (ap is_there (simp (same_refl n) at (s (last n))))))
  matched (member n t d ms) ns h k s =
      let (e, q, y) = found t (shape d) (seek n ns) (simp (same_refl n) at (s (last n))) in
      let (rest, x) = take_out n ns (property t e) q in
      match x refl
      (same_reordered d e h.1 (taken_value n x k) (record { root = y; below = λ p. (simp (same_refl n) at (s (down n p))) ∙ ap (λ (o : Option Property). seen (within (find p) o)) q }))
      (matched ms rest h.2 (taken_rest n x k) (rest_look n t d e ms ns rest x h.0 k s))
