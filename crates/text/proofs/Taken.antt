-- A member that is taken out of some (`Taken`, specs/Sameness.antt), by looking for its name; so objects with distinct names are the same, the order
-- not counted, exactly if each name finds in both nothing, or the same: `same_members`. Assumes nothing.
use mathlib.Core.Bool.{cond}
use mathlib.Core.List.{List}
use mathlib.Core.Logic.{◌≢◌, ◌↔◌}
use mathlib.Core.Option.{Option, none, some, none-ne-some, some-ne-none, some-injective}
use mathlib.Core.Path.{◌≡◌, refl, sym, ap, ◌∙◌, subst}
use Prim.Native.Nat.{ℕ}
use Rattle.laws.specs.Order.{same}
use Rattle.laws.proofs.Orders.{same_refl}
use Rattle.text.specs.Doc.{Name, Doc, object, Members, empty, member, Property, property, seek}
use Rattle.text.specs.Distinct.{Distinct, DistinctMembers}
use Rattle.text.specs.Sameness.{MemberOrder, free, Taken, at_head, in_tail, Corresponds, objects, Matched, nothing, match, CorrespondsAt, neither, both}
use Rattle.text.proofs.Names.{same_yes, same_no, by_name}
use Rattle.text.proofs.Sameness.{Tokens, Labels}

-- ---- a member that is taken out ----

module _ (n : Name) where
  pub take_out : (ns : Members) (s : Property) → seek n ns ≡ some s → (rest : Members) × Taken n s.label s.content free ns rest
  take_out empty s h = absurd (none-ne-some s h)
  take_out (member m t d ns) s h =
      by_name m n
      (λ e. let q : property t d ≡ s = some-injective (property t d) s (simp (same_yes e) at h) in
      (ns, rw e (subst (λ (r : Property). Taken n r.label r.content free (member n t d ns) ns) q at_head)))
      (λ ne. let (rest, k) = take_out ns s (simp (same_no ne) at h) in (member m t d rest, in_tail k))

  taken_found : {t : List ℕ} {d : Doc} {o : MemberOrder} {ns rest : Members} → Taken n t d o ns rest → ¬ (seek n ns ≡ none)
  taken_found {t = t} {d = d} at_head h = some-ne-none (property t d) (simp (same_refl n) at h)
  taken_found (in_tail {m = m} {l = u} {e = e} x) h =
      by_name m n
      (λ q. some-ne-none (property u e) (simp (same_yes q) at h))
      (λ ne. taken_found x (simp (same_no ne) at h))

  -- a member before it has another name
  taken_after : {t : List ℕ} {d : Doc} {o : MemberOrder} {ns rest : Members} (m : Name) → Taken n t d o ns rest → seek m ns ≡ none → n ≢ m
  taken_after {ns = ns} m x h e = taken_found x (subst (λ (k : Name). seek k ns ≡ none) (sym e) h)

  pub taken_other : {t : List ℕ} {d : Doc} {o : MemberOrder} {ns rest : Members} (k : Name) → Taken n t d o ns rest → n ≢ k → seek k ns ≡ seek k rest
  taken_other k at_head h = simp (same_no h)
  taken_other k (in_tail {m = m} {l = u} {e = e} x) h = ap (λ (o : Option Property). cond (same m k) (some (property u e)) o) (taken_other k x h)

  -- the names are distinct: it is the one that is found, and it is there no more
  pub taken_is : {t : List ℕ} {d : Doc} {o : MemberOrder} {ns rest : Members} → Taken n t d o ns rest → DistinctMembers ns → seek n ns ≡ some (property t d)
  taken_is at_head h = simp (same_refl n)
  taken_is (in_tail {m = m} x) h = simp (same_no (λ (e : m ≡ n). taken_after m x h.0 (sym e))) (taken_is x h.2)

  pub taken_same : {t : List ℕ} {d : Doc} {o : MemberOrder} {ns rest : Members} → Taken n t d o ns rest → DistinctMembers ns → seek n rest ≡ none
  taken_same at_head h = h.0
  taken_same (in_tail {m = m} x) h = simp (same_no (λ (e : m ≡ n). taken_after m x h.0 (sym e))) (taken_same x h.2)

  pub taken_value : {t : List ℕ} {d : Doc} {o : MemberOrder} {ns rest : Members} → Taken n t d o ns rest → DistinctMembers ns → Distinct d
  taken_value at_head h = h.1
  taken_value (in_tail x) h = taken_value x h.2

  pub taken_rest : {t : List ℕ} {d : Doc} {o : MemberOrder} {ns rest : Members} → Taken n t d o ns rest → DistinctMembers ns → DistinctMembers rest
  taken_rest at_head h = h.2
  taken_rest (in_tail {m = m} x) h = (sym (taken_other m x (taken_after m x h.0)) ∙ h.0, h.1, taken_rest x h.2)

-- ---- members by their names ----

module _ (T : Tokens) (N : Labels) (i : MemberOrder) where
  same_at : {v : MemberOrder} {a b x y : Option Property} → a ≡ x → b ≡ y → CorrespondsAt T N i v x y → CorrespondsAt T N i v a b
  same_at e f h = rw (e, f) h

  -- what matches is found
  matched_seek : {o v : MemberOrder} {ms ns : Members} → Matched T N i o v ms ns → DistinctMembers ms → DistinctMembers ns → (k : Name) → CorrespondsAt T N i v (seek k ms) (seek k ns)
  matched_seek nothing h g k = neither
  matched_seek (match {n = n} {label = l} {label' = u} {d = d} {e = e} x q s m) h g k =
      by_name n k
      (λ z. rw (← z) (same_at (simp (same_refl n)) (taken_is n x g) (both {s = property l d} {t = property u e} q s)))
      (λ ne. same_at (simp (same_no ne)) (taken_other n k x ne) (matched_seek m h.2 (taken_rest n x g) k))

  -- a property that is the same as this one
  record Found (v : MemberOrder) (s : Property) (o : Option Property) : Type 0 where
    other : Property
    is : o ≡ some other
    labels : N s.label other.label
    content : Corresponds T N i v s.content other.content

  found : {v : MemberOrder} {a b : Option Property} (s : Property) → CorrespondsAt T N i v a b → a ≡ some s → Found v s b
  found s neither e = absurd (none-ne-some s e)
  found {v = v} s (both {s = r} {t = t} q h) e =
      let z : r ≡ s = some-injective r s e in
      record {
        other = t;
        is = refl;
        labels = subst (λ (x : Property). N x.label t.label) z q;
        content = subst (λ (x : Property). Corresponds T N i v x.content t.content) z h;
      }

  not_found : {v : MemberOrder} {a b : Option Property} → CorrespondsAt T N i v a b → a ≡ none → b ≡ none
  not_found neither e = refl
  not_found (both {s = s} q h) e = absurd (some-ne-none s e)

  module _ (v : MemberOrder) where
    -- with one member taken out of either, what is left is found the same
    rest_at : (n : Name) (l : List ℕ) (d : Doc) (ms : Members) {u : List ℕ} {e : Doc} {ns rest : Members} → Taken n u e free ns rest → seek n ms ≡ none → DistinctMembers ns
        → ((k : Name) → CorrespondsAt T N i v (seek k (member n l d ms)) (seek k ns)) → (k : Name) → CorrespondsAt T N i v (seek k ms) (seek k rest)
    rest_at n l d ms x h g s k =
        by_name n k
        (λ z. rw (← z) (same_at h (taken_same n x g) neither))
        (λ ne. same_at (sym (simp (same_no ne))) (sym (taken_other n k x ne)) (s k))

    -- what is found matches
    seek_matched : (ms ns : Members) → DistinctMembers ms → DistinctMembers ns → ((k : Name) → CorrespondsAt T N i v (seek k ms) (seek k ns)) → Matched T N i free v ms ns
    seek_matched empty empty h g s = nothing
    seek_matched empty (member n l d ns) h g s = absurd (some-ne-none (property l d) (simp (same_refl n) at (not_found (s n) refl)))
    seek_matched (member n l d ms) ns h g s =
        let f = found (property l d) (s n) (simp (same_refl n)) in
        let (rest, x) = take_out n ns f.other f.is in
        match x f.labels f.content (seek_matched ms rest h.2 (taken_rest n x g) (rest_at n l d ms x h.0 g s))

-- theorem: objects with distinct names, by their names
pub same_members : (T : Tokens) (N : Labels) (i : MemberOrder) (ms ns : Members) → DistinctMembers ms → DistinctMembers ns
    → Corresponds T N i free (object ms) (object ns) ↔ ((n : Name) → CorrespondsAt T N i free (seek n ms) (seek n ns))
same_members T N i ms ns h g = (go, λ s. objects (seek_matched T N i free ms ns h g s))
  where
    go : Corresponds T N i free (object ms) (object ns) → (n : Name) → CorrespondsAt T N i free (seek n ms) (seek n ns)
    go (objects m) n = matched_seek T N i m h g n
