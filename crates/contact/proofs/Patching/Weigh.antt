-- A patched document weighs no more than the document and the PatchObject together (`patched_weight`), and a patched card no more than the card
-- (`weighs_less`), for any weight that a value has by its parts. It goes by the one-at-a-time theorem: a step adds at most what its entry weighs in the
-- PatchObject, and the order of members does not count.
-- Assumes nothing.
use mathlib.Core.List.{List, [], ◌∷◌}
use mathlib.Core.Option.{Option, none, some, none-ne-some, some-injective}
use mathlib.Core.Path.{◌≡◌, refl, ap}
use Prim.Native.Nat.{ℕ, ◌+◌, ◌≤◌, ◌<◌}
use native.Mathlib.Omega.{arith}
use lib.Dec.{eqb}
use Rattle.laws.proofs.Bools.{by_test}
use Rattle.text.specs.Text.{bytes}
use Rattle.text.specs.Doc.{Name, Doc, scalar, array, object, Members, empty, member, Property, property, seek}
use Rattle.text.specs.Distinct.{Distinct, DistinctMembers}
use Rattle.text.specs.Sameness.{MemberOrder, counted, Taken, at_head, in_tail, Corresponds, scalars, arrays, objects, Matched, nothing, match, EqualToken, EqualLabel}
use Rattle.text.specs.Writing.{spelled}
use Rattle.text.proofs.Sameness.{matched_equal}
use Rattle.contact.specs.Pointer.{Pointer, last, down, last_part, pointer_of, within, find}
use Rattle.contact.specs.Patch.{Change, remove, set, Entry, entry, change_of, entries_of, Walk, arrives, in_array, no_object, walk, write, without, put, alter, changed, when_arrived, run_on, run, applied}
use Rattle.contact.specs.Localize.{start, patch_at, patched_doc}
use Rattle.contact.specs.Likeness.{Reordered}
use Rattle.contact.specs.Entries.{NoClash, ParentsThere}
use Rattle.contact.specs.Conditions.{PatchOf}
use Rattle.contact.proofs.Patching.Names.{by_name, same_yes, same_no}
use Rattle.contact.proofs.Patching.Looking.{RunsTo}
use Rattle.contact.proofs.Patching.Single.{one_at_a_time}
use Rattle.contact.proofs.Patching.Reorder.{same_reordered}
use Rattle.contact.proofs.Patching.Distinct.{DistinctValues, distinct_run, distinct_applied, entries_values, distinct_start, find_distinct}

-- what a value weighs that is no object, what a name weighs as it is written, and an object by what its members weigh
pub record Scale : Type 0 where
  pub leaf : ℕ → List ℕ → ℕ
  pub list : Members → ℕ
  pub label : List ℕ → ℕ
  pub box : ℕ → ℕ
  pub box_up : (a b : ℕ) → a ≤ b → box a ≤ box b
  pub box_slow : (a k : ℕ) → box (a + k) ≤ box a + k
  pub box_fast : (a k b : ℕ) → a + k < b → box a + k ≤ box b
  pub box_holds : (a : ℕ) → a < box a

module _ (S : Scale) where
  abbrev mutual
    pub weight : Doc → ℕ
    weight (scalar kind token) = S.leaf kind token
    weight (array ms) = S.list ms
    weight (object ms) = S.box (sum ms)

    pub sum : Members → ℕ
    sum empty = 0
    sum (member n label d ms) = S.label label + weight d + sum ms

  -- ---- a step adds at most the cost of its entry

  abbrev cost : Pointer → Change → ℕ
  cost p remove = 0
  cost p (set v) = S.label (spelled (last_part p)) + weight v

  abbrev costs : List Entry → ℕ
  costs [] = 0
  costs (entry p c ∷ es) = cost p c + costs es

  write_sum : (n : Name) (v : Doc) (ms : Members) → sum (write n v ms) ≤ sum ms + (S.label (spelled n) + weight v)
  write_sum n v empty = omega arith
  write_sum n v (member m t d ms) =
      by_name m n (λ e. simp (same_yes e) (omega arith)) (λ ne. simp (same_no ne) (omega (arith, write_sum n v ms)))

  without_sum : (n : Name) (ms : Members) → sum (without n ms) ≤ sum ms
  without_sum n empty = omega arith
  without_sum n (member m t d ms) =
      by_name m n
      (λ e. simp (same_yes e) (omega (arith, without_sum n ms)))
      (λ ne. simp (same_no ne) (omega (arith, without_sum n ms)))

  put_sum : (n : Name) (c : Change) (ms : Members) → sum (put n c ms) ≤ sum ms + cost (last n) c
  put_sum n remove ms = omega (arith, without_sum n ms)
  put_sum n (set v) ms = write_sum n v ms

  alter_sum : (n : Name) (f : Doc → Doc) (k : ℕ) (ms : Members) → ((d : Doc) → weight (f d) ≤ weight d + k) → sum (alter n f ms) ≤ sum ms + k
  alter_sum n f k empty h = omega arith
  alter_sum n f k (member m t d ms) h =
      by_name m n
      (λ e. simp (same_yes e) (omega (arith, h d)))
      (λ ne. simp (same_no ne) (omega (arith, alter_sum n f k ms h)))

  cost_down : (n : Name) (p : Pointer) (c : Change) → cost (down n p) c ≡ cost p c
  cost_down n p remove = refl
  cost_down n p (set v) = refl

  -- an object whose members weigh at most k more
  box_more : (a b k : ℕ) → a ≤ b + k → S.box a ≤ S.box b + k
  box_more a b k h = omega (arith, S.box_up a (b + k) h, S.box_slow b k)

  changed_weight : (p : Pointer) (c : Change) (d : Doc) → weight (changed p c d) ≤ weight d + cost p c
  changed_weight (last n) c (scalar kind token) = omega arith
  changed_weight (last n) c (array xs) = omega arith
  changed_weight (last n) c (object ms) = box_more (sum (put n c ms)) (sum ms) (cost (last n) c) (put_sum n c ms)
  changed_weight (down n p) c (scalar kind token) = omega arith
  changed_weight (down n p) c (array xs) = omega arith
  changed_weight (down n p) c (object ms) =
      omega (
        arith,
        cost_down n p c,
        box_more (sum (alter n (changed p c) ms)) (sum ms) (cost p c) (alter_sum n (changed p c) (cost p c) ms (λ d. changed_weight p c d)),
      )

  run_weight : (es : List Entry) (d e : Doc) → run es d ≡ some e → weight e ≤ weight d + costs es
  run_weight [] d e r = omega (arith, ap weight (some-injective d e r))
  run_weight (entry p c ∷ es) d e r = go (walk p d) r (run_weight es (changed p c d) e)
    where
      go : (w : Walk) → run_on (run es) (when_arrived w (changed p c d)) ≡ some e
          → (run es (changed p c d) ≡ some e → weight e ≤ weight (changed p c d) + costs es) → weight e ≤ weight d + (cost p c + costs es)
      go arrives q f = omega (arith, f q, changed_weight p c d)
      go in_array q f = absurd (none-ne-some e q)
      go no_object q f = absurd (none-ne-some e q)

  -- ---- the order of members does not count

  taken_sum : {n : Name} {t : List ℕ} {d : Doc} {o : MemberOrder} {ns rest : Members} → Taken n t d o ns rest → sum ns ≡ S.label t + weight d + sum rest
  taken_sum at_head = refl
  taken_sum (in_tail x) = omega (arith, taken_sum x)

  mutual
    same_weight : {o : MemberOrder} {d e : Doc} → Corresponds EqualToken EqualLabel counted o d e → weight d ≡ weight e
    same_weight (scalars t) = rw (t.kinds, t.tokens)
    same_weight (arrays {ms = xs} {ns = ys} m) = rw ((matched_equal xs ys).0 m)
    same_weight (objects m) = ap S.box (matched_sum m)

    matched_sum : {o v : MemberOrder} {ms ns : Members} → Matched EqualToken EqualLabel counted o v ms ns → sum ms ≡ sum ns
    matched_sum nothing = refl
    matched_sum (match x l r m) = omega (arith, taken_sum x, ap S.label l, same_weight r, matched_sum m)

  -- ---- what the entries cost, the PatchObject has

  -- a name that is added weighs no more than the key that it comes from, as it is written
  abbrev pub KeysCover : Members → Type 0
  KeysCover empty = Unit {0}
  KeysCover (member n label d ms) = (S.label (spelled (last_part (pointer_of n))) ≤ S.label label) × KeysCover ms

  change_cost : (p : Pointer) (d : Doc) → cost p (change_of d) ≤ S.label (spelled (last_part p)) + weight d
  change_cost p (scalar kind token) = by_test (eqb kind 1) (λ x. simp x (omega arith)) (λ x. simp x (omega arith))
  change_cost p (array xs) = omega arith
  change_cost p (object ms) = omega arith

  entries_cost : (ms : Members) → KeysCover ms → costs (entries_of ms) ≤ sum ms
  entries_cost empty h = omega arith
  entries_cost (member n t d ms) h = omega (arith, h.0, change_cost (pointer_of n) d, entries_cost ms h.1)

  seek_sum : (n : Name) (ms : Members) (s : Property) → seek n ms ≡ some s → sum (without n ms) + (S.label s.label + weight s.content) ≤ sum ms
  seek_sum n empty s h = absurd (none-ne-some s h)
  seek_sum n (member m t d ms) s h =
      by_name m n
      (λ e. let q : property t d ≡ s = some-injective (property t d) s (simp (same_yes e) at h) in
      simp (same_yes e) (omega (arith, without_sum n ms, ap (λ (r : Property). S.label r.label + weight r.content) q)))
      (λ ne. simp (same_no ne) (omega (arith, seek_sum n ms s (simp (same_no ne) at h))))

  start_weight : (card : Doc) (lang : Name) (t : List ℕ) (ms : Members) → find (patch_at lang) card ≡ some (property t (object ms))
      → weight (start card) + sum ms ≤ weight card
  start_weight (scalar kind token) lang t ms h = absurd (none-ne-some (property t (object ms)) h)
  start_weight (array xs) lang t ms h = absurd (none-ne-some (property t (object ms)) h)
  start_weight (object cs) lang t ms h = go (seek (bytes "localizations") cs) refl h
    where
      inside : (d : Doc) → find (last lang) d ≡ some (property t (object ms)) → sum ms < weight d
      inside (scalar kind token) q = absurd (none-ne-some (property t (object ms)) q)
      inside (array xs) q = absurd (none-ne-some (property t (object ms)) q)
      inside (object ls) q = omega (arith, seek_sum lang ls (property t (object ms)) q, S.box_holds (sum ms), S.box_holds (sum ls))

      go : (o : Option Property) → seek (bytes "localizations") cs ≡ o → within (find (last lang)) o ≡ some (property t (object ms))
          → weight (start (object cs)) + sum ms ≤ weight (object cs)
      go none k q = absurd (none-ne-some (property t (object ms)) q)
      go (some s) k q =
          S.box_fast (sum (without (bytes "localizations") cs)) (sum ms) (sum cs)
          (omega (arith, seek_sum (bytes "localizations") cs s k, inside s.content q))

  -- ---- the theorems

  pub patched_weight : (d : Doc) (ms : Members) → KeysCover ms → Distinct d → DistinctMembers ms → NoClash (entries_of ms) → ParentsThere (entries_of ms) d
      → weight (applied d (entries_of ms)) ≤ weight d + sum ms
  patched_weight d ms k dd dm nc pt =
      let es : List Entry = entries_of ms in
      let x : Doc = applied d es in
      let r : RunsTo es d x = one_at_a_time es d nc pt in
      let v : DistinctValues es = entries_values ms dm in
      let o : Reordered r.end x =
      same_reordered r.end x (distinct_run es d r.end v dd r.reached) (distinct_applied d es nc v dd) r.alike in
      omega (arith, same_weight o, run_weight es d r.end r.reached, entries_cost ms k)

  pub weighs_less : (card : Doc) (lang : Name) (ms : Members) → PatchOf card lang ms → KeysCover ms
      → Distinct card → NoClash (entries_of ms) → ParentsThere (entries_of ms) (start card)
      → weight (patched_doc card ms) ≤ weight card
  weighs_less card lang ms p k dc nc pt =
      let dm : DistinctMembers ms = find_distinct (patch_at lang) card (property p.label (object ms)) dc p.stands in
      omega (arith, patched_weight (start card) ms k (distinct_start card dc) dm nc pt, start_weight card lang p.label ms p.stands)
