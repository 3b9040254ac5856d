-- The entries in another order give the same document, to the byte: `any_order`.
-- Assumes nothing.
use mathlib.Core.Bool.{true≢false}
use mathlib.Core.List.{List}
use mathlib.Core.Logic.{◌≢◌}
use mathlib.Core.Option.{Option, none, some}
use mathlib.Core.Path.{◌≡◌, refl, sym, ap, ◌∙◌}
use Rattle.laws.specs.Sorting.{Perm, stay, skip, swap, and_then}
use Rattle.laws.proofs.Bools.{by_test}
use Rattle.laws.specs.Order.{before}
use Rattle.laws.proofs.Orders.{before_asym, before_trans}
use Rattle.text.specs.Doc.{Name, Doc, scalar, array, object, Members, empty, member, Property, seek}
use Rattle.contact.specs.Pointer.{last, down}
use Rattle.contact.specs.Patch.{remove, set, Entry, entry, under, insert, fresh, added, keep, applied, kept}
use Rattle.contact.specs.Entries.{NoClash}
use Rattle.contact.proofs.Patching.Names.{before_total}
use Rattle.contact.proofs.Patching.Entries.{perm_noclash, perm_mine, perm_under, under_noclash}

-- ---- two members inserted in either order

module _ (n m : Name) (v w : Doc) (h : n ≢ m) where
  insert_swap : (ms : Members) → insert n v (insert m w ms) ≡ insert m w (insert n v ms)
  insert_swap empty =
      by_test (before n m)
      (λ b. simp (b, before_asym n m b))
      (λ b. simp (b, before_total n m h b))
  insert_swap (member k t d ms) =
      by_test (before n k)
      (λ p. by_test (before m k)
      (λ q. by_test (before n m)
      (λ b. simp (p, q, b, before_asym n m b))
      (λ b. simp (p, q, b, before_total n m h b)))
      (λ q. by_test (before m n)
      (λ b. absurd (true≢false (sym (before_trans m n k b p) ∙ q)))
      (λ b. simp (p, q, b))))
      (λ p. by_test (before m k)
      (λ q. by_test (before n m)
      (λ b. absurd (true≢false (sym (before_trans n m k b q) ∙ p)))
      (λ b. simp (p, q, b)))
      (λ q. simp (p, q) (ap (member k t d) (insert_swap ms))))

  fresh_swap : (o q : Option Property) (ms : Members) → fresh o n v (fresh q m w ms) ≡ fresh q m w (fresh o n v ms)
  fresh_swap none none ms = insert_swap ms
  fresh_swap none (some d) ms = refl
  fresh_swap (some d) none ms = refl
  fresh_swap (some d) (some e) ms = refl

perm_added : {es fs : List Entry} (ms : Members) → Perm es fs → NoClash es → added ms es ≡ added ms fs
perm_added ms stay k = refl
perm_added ms (skip {x = entry (last n) remove} π) k = perm_added ms π k.1
perm_added ms (skip {x = entry (last n) (set v)} π) k = ap (fresh (seek n ms) n v) (perm_added ms π k.1)
perm_added ms (skip {x = entry (down n p) c} π) k = perm_added ms π k.1
perm_added ms (swap {x = entry (last n) remove} {y = entry (last m) remove}) k = refl
perm_added ms (swap {x = entry (last n) remove} {y = entry (last m) (set w)}) k = refl
perm_added ms (swap {x = entry (last n) remove} {y = entry (down m q) c'}) k = refl
perm_added ms (swap {x = entry (last n) (set v)} {y = entry (last m) remove}) k = refl
perm_added ms (swap {x = entry (last n) (set v)} {y = entry (last m) (set w)} {xs = es}) k =
    fresh_swap n m v w k.0.0 (seek n ms) (seek m ms) (added ms es)
perm_added ms (swap {x = entry (last n) (set v)} {y = entry (down m q) c'}) k = refl
perm_added ms (swap {x = entry (down n p) c} {y = entry (last m) remove}) k = refl
perm_added ms (swap {x = entry (down n p) c} {y = entry (last m) (set w)}) k = refl
perm_added ms (swap {x = entry (down n p) c} {y = entry (down m q) c'}) k = refl
perm_added ms (and_then π ρ) k = perm_added ms π k ∙ perm_added ms ρ (perm_noclash π k)

mutual
  pub any_order : (d : Doc) (es fs : List Entry) → Perm es fs → NoClash es → applied d es ≡ applied d fs
  any_order (scalar kind token) es fs π k = refl
  any_order (array xs) es fs π k = refl
  any_order (object ms) es fs π k = λ i. object (kept_order ms es fs π k (added ms es) (added ms fs) (perm_added ms π k) i)

  kept_order : (ms : Members) (es fs : List Entry) → Perm es fs → NoClash es → (xs ys : Members) → xs ≡ ys → kept ms es xs ≡ kept ms fs ys
  kept_order empty es fs π k xs ys e = e
  kept_order (member n t d ms) es fs π k xs ys e =
      λ i. keep (perm_mine n π k i) n t (any_order d (under n es) (under n fs) (perm_under n π) (under_noclash n es k) i) (kept_order ms es fs π k xs ys e i)
