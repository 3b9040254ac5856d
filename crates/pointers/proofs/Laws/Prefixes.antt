-- A pointer that is a prefix of another, in the order of pointers and in the order of bytes:
--     between         what stands between two pointers that clash clashes with the first of them
--     prefix-first    of two keys without a loose `~` whose pointers clash, the one whose pointer is not Greater is not after the other in byte order
-- Assumes nothing.
use Rattle.std.specs.declared.cmp.Ordering.{Ordering}
use Rattle.std.specs.declared.cmp.Ordering.TheVariants.{Less, Equal, Greater}
use mathlib.Core.Path.{◌≡◌, refl, ap, sym, ◌∙◌}
use mathlib.Core.Logic.{◌≢◌}
use mathlib.Core.Bool.{true, false, true≢false}
use mathlib.Core.List.{List, [], ◌∷◌, ◌++◌, append_assoc, append-nil}
use Prim.Native.Nat.{ℕ}
use Rattle.laws.specs.Order.{order_of, before, Earlier, begins, equal}
use Rattle.laws.proofs.Orders.{flip, order_flip, order_refl, same_eq, same_refl, before_irrefl, before_asym, before_earlier}
use Rattle.text.specs.Doc.{Name}
use Rattle.contact.specs.Pointer.{Pointer, last, down, first_part, pointer_of, bad_tilde, clash}
use Rattle.contact.specs.PointerText.{PartText, PointerText, one, more}
use Rattle.contact.proofs.Patching.Names.{by_name, same_yes, same_no}
use Rattle.contact.proofs.Patching.Pointers.{pointer_iff, part_one}
use Rattle.pointers.specs.Pointers.{pointer_order}
use Rattle.pointers.proofs.Laws.Orders.{name_eq, first_not_more}

-- ---- the same first part

-- two names, neither of which is Greater than the other
squeeze : (n m : Name) → order_of n m ≢ Greater → order_of m n ≢ Greater → n ≡ m
squeeze n m f g = go (order_of n m) refl
  where
    go : (o : Ordering) → order_of n m ≡ o → n ≡ m
    go Less e = absurd (g (order_flip n m ∙ ap flip e))
    go Equal e = name_eq n m e
    go Greater e = absurd (f e)

past : (n : Name) (p q : Pointer) → pointer_order (down n p) (down n q) ≡ pointer_order p q
unfolding pointer_order
past n p q = rw (order_refl n)

end_after : (n : Name) (p : Pointer) → pointer_order (down n p) (last n) ≡ Greater
unfolding pointer_order
end_after n p = rw (order_refl n)

clash_first : (p q : Pointer) → clash p q ≡ true → first_part p ≡ first_part q
clash_first (last n) (last m) e = same_eq n m e
clash_first (last n) (down m q) e = same_eq n m e
clash_first (down n p) (last m) e = same_eq n m e
clash_first (down n p) (down m q) e = by_name n m (λ h. h) (λ ne. absurd (true≢false (sym (simp (same_no ne) at e))))

clash_past : (n : Name) (p q : Pointer) → clash (down n p) (down n q) ≡ clash p q
clash_past n p q = rw (same_refl n)

-- ---- between two that clash

-- the first parts of what stands between two with the same first part
middle : (p m q : Pointer) → pointer_order p m ≢ Greater → pointer_order m q ≢ Greater → clash p q ≡ true → first_part p ≡ first_part m
middle p m q f g c = squeeze (first_part p) (first_part m) (first_not_more p m f) (rw (clash_first p q c) (first_not_more m q g))

pub between : (p m q : Pointer) → pointer_order p m ≢ Greater → pointer_order m q ≢ Greater → clash p q ≡ true → clash p m ≡ true
between (last n) (last m) q f g c = same_yes (middle (last n) (last m) q f g c)
between (last n) (down m r) q f g c = same_yes (middle (last n) (down m r) q f g c)
between (down n p) (last m) q f g c = same_yes (middle (down n p) (last m) q f g c)
between (down n p) (down m r) (last l) f g c =
    let h : n ≡ m = middle (down n p) (down m r) (last l) f g c in
    let k : n ≡ l = clash_first (down n p) (last l) c in
    absurd (g (rw (← h, ← k) (end_after n r)))
between (down n p) (down m r) (down l q) f g c =
    let h : n ≡ m = middle (down n p) (down m r) (down l q) f g c in
    let k : n ≡ l = clash_first (down n p) (down l q) c in
    rw (← h, clash_past n p r)
    (between p r q
    (λ e. f (rw (← h) (past n p r ∙ e)))
    (λ e. g (rw (← h, ← k) (past n r q ∙ e)))
    (sym (clash_past n p q) ∙ rw (← k) at c))

-- ---- in the order of bytes

-- one name is written in one way
one_text : {bs cs : List ℕ} {n m : Name} → n ≡ m → PartText bs n → PartText cs m → cs ≡ bs
one_text e x y = sym (part_one x (rw e y))

-- what is written begins what is written of the other
begun : {k l : List ℕ} {p q : Pointer} → PointerText k p → PointerText l q → clash p q ≡ true → pointer_order p q ≢ Greater → (r : List ℕ) × (l ≡ k ++ r)
begun {k} (one {n = n} x) (one {n = m} y) c h =
    let e : n ≡ m = clash_first (last n) (last m) c in
    ([], one_text e x y ∙ sym (append-nil k))
begun (one {n = n} x) (more {cs = cs} {n = m} {p = q} y w) c h =
    let e : n ≡ m = clash_first (last n) (down m q) c in
    (47 ∷ cs, ap (λ (b : List ℕ). b ++ (47 ∷ cs)) (one_text e x y))
begun (more {n = n} {p = p} x v) (one {n = m} y) c h = absurd (h (rw (← clash_first (down n p) (last m) c) (end_after n p)))
begun (more {bs = bs} {cs = cs} {n = n} {p = p} x v) (more {bs = es} {cs = ds} {n = m} {p = q} y w) c h =
    let e : n ≡ m = clash_first (down n p) (down m q) c in
    longer e (begun v w (sym (clash_past n p q) ∙ rw (← e) at c) (λ f. h (rw (← e) (past n p q ∙ f))))
  where
    longer : n ≡ m → (r : List ℕ) × (ds ≡ cs ++ r) → (r : List ℕ) × (es ++ (47 ∷ ds) ≡ (bs ++ (47 ∷ cs)) ++ r)
    longer e (r, f) = (r, rw (append_assoc, one_text e x y, f))

earlier_longer : (k : Name) (b : ℕ) (r : List ℕ) → Earlier k (k ++ (b ∷ r))
earlier_longer [] b r = begins
earlier_longer (a ∷ k) b r = equal (earlier_longer k b r)

not_after : (k : Name) (r : List ℕ) → before (k ++ r) k ≡ false
not_after k [] = rw append-nil (before_irrefl k)
not_after k (b ∷ r) = before_asym k (k ++ (b ∷ r)) ((before_earlier k (k ++ (b ∷ r))).1 (earlier_longer k b r))

pub prefix_first : (k l : Name) → bad_tilde k ≡ false → bad_tilde l ≡ false → clash (pointer_of k) (pointer_of l) ≡ true
    → pointer_order (pointer_of k) (pointer_of l) ≢ Greater → before l k ≡ false
prefix_first k l a b c h =
    let (r, e) = begun ((pointer_iff k (pointer_of k)).1 (a, refl)) ((pointer_iff l (pointer_of l)).1 (b, refl)) c h in
    rw e (not_after k r)
