-- Marks of entries while the members of an object are met, one after the other:
--     mark-cued, waiting-marked             what a mark says of the part at hand, and marks where no member has been met
--     ahead-out, ahead_in, ahead-on         the members that are still ahead
--     mark-other, mark-waits, mark-met      the mark of an entry past a member: of another name, of its name before and after
--     walk_ends, walk-goes                  where the walk of an entry ends that meets a member
--     met_by, waits-by                      the mark of an entry when all members have been met
--     adds-there, adds-lacking, walk-lost   what it adds then, and where its walk ends
--     mark-same, walked_next                marks that stay, and one more walk
-- Assumes nothing.
use Prim.Native.Nat.{ℕ, ◌+◌, ◌-◌, ◌≤◌, ◌<◌}
use mathlib.Core.Path.{◌≡◌, refl, sym, ap, ◌∙◌}
use mathlib.Core.Logic.{◌≢◌, ◌⊎◌, inl, inr}
use mathlib.Core.Bool.{Bool, true, false}
use mathlib.Core.List.{List}
use mathlib.Core.Option.{Option, none, some}
use native.Mathlib.Omega.{arith}
use native.Mathlib.Decide.{ℕ_discrete}
use lib.ListN.{get_or}
use borrow.Author.Tests.{lt-ltb, le-ltb}
use Rattle.laws.specs.Order.{same}
use Rattle.laws.proofs.Orders.{same_eq, same_refl}
use Rattle.text.specs.Tree.{Forest}
use Rattle.text.specs.Firsts.{HasFirst, name_start, name_end, rest_at}
use Rattle.text.specs.Strings.{name_of}
use Rattle.text.specs.Doc.{Name, Doc, object, Members, empty, member, Property, property, seek, is_there, members_of, label_at, doc_of}
use Rattle.text.proofs.Promise.{members_first}
use Rattle.contact.specs.Pointer.{Pointer, last, down, first_part}
use Rattle.contact.specs.Patch.{Change, remove, set, entry, arrives, no_object, walk}
use Rattle.json_reader.specs.Lookup.{KnownAt}
use Rattle.patch.specs.Children.{key_at}
use Rattle.patch.specs.Conditions.{walk_code, Walked}
use Rattle.patch.specs.Marks.{met, Around, point_at, part_at, Waits, Waiting, Cued, Mark, waits, meets, Marked, Unmet}
use Rattle.patch.specs.Patched.{based_all, is_out, kept_by, freshly, adds, pointer_in}
use Rattle.patch.proofs.Putting.Walks.{value_row}

-- ---- one mark ----

module _ (t table pt ptable rows : List ℕ) (parts : ℕ) where
  mark_cued : {cues walks : List ℕ} {all ahead : Members} {i : ℕ} → Mark t table pt ptable rows cues walks parts all ahead i
      → part_at t table pt ptable rows cues i ≡ first_part (point_at pt ptable rows parts i)
  unfolding part_at
  mark_cued {cues} {i = i} (waits w o) = rw (lt-ltb (get_or cues i 0) met w.low) (ap first_part w.left)
  mark_cued {cues} {i = i} (meets m a b c) = rw (le-ltb (get_or cues i 0) met m.high) m.name

  pub marked_cued : {cues walks : List ℕ} {lo hi : ℕ} {all ahead : Members} → Marked t table pt ptable rows cues walks lo hi parts all ahead
      → Cued t table pt ptable rows cues lo hi parts
  marked_cued m i x y = mark_cued (m i x y)

  -- where no member has been met
  pub waiting_marked : {cues : List ℕ} (walks : List ℕ) {lo hi : ℕ} (all : Members) → Waiting pt ptable rows cues lo hi parts
      → Marked t table pt ptable rows cues walks lo hi parts all all
  waiting_marked walks all w i x y = waits (w i x y) (go (seek (first_part (point_at pt ptable rows parts i)) all))
    where
      go : (o : Option Property) → (o ≡ none) ⊎ (is_there o ≡ true)
      go none = inl refl
      go (some p) = inr refl

-- ---- members that are ahead ----

-- the first is left out, or it is the first of those ahead
pub ahead_out : (root : Bool) (t : List ℕ) (g : Forest) → HasFirst g → is_out root (name_of t (name_start g) (name_end g)) ≡ true
    → based_all root (members_of t g) ≡ based_all root (members_of t (rest_at g))
ahead_out true t g s e = ap (based_all true) (members_first t g s) ∙ rw e
ahead_out false t g s e = let z : ◌≡◌ {A = ℕ} 0 1 = cc in absurd (omega arith)

pub ahead_in : (root : Bool) (t : List ℕ) (g : Forest) → HasFirst g → is_out root (name_of t (name_start g) (name_end g)) ≡ false
    → based_all root (members_of t g)
    ≡ member (name_of t (name_start g) (name_end g)) (label_at t (name_start g) (name_end g)) (doc_of t g) (based_all root (members_of t (rest_at g)))
ahead_in true t g s e = ap (based_all true) (members_first t g s) ∙ rw e
ahead_in false t g s e = members_first t g s

-- a name that another one isn't
other_name : (n m : Name) → m ≢ n → same n m ≡ false
other_name n m ne = go (same n m) refl
  where
    go : (b : Bool) → same n m ≡ b → same n m ≡ false
    go true e = absurd (ne (sym (same_eq n m e)))
    go false e = e

module _ (n : Name) (label : List ℕ) (d : Doc) (rest : Members) where
  seek_other : (m : Name) → m ≢ n → seek m (member n label d rest) ≡ seek m rest
  seek_other m ne = rw (other_name n m ne)

  seek_own : seek n (member n label d rest) ≡ some (property label d)
  seek_own = rw (same_refl n)

  module _ {all : Members} (a : Unmet all (member n label d rest)) where
    pub ahead_found : seek n all ≡ some (property label d)
    ahead_found = a.found n (ap is_there seek_own) ∙ seek_own

    pub ahead_on : Unmet all rest
    ahead_on = record { found = found; distinct = a.distinct.2 }
      where
        found : (m : Name) → is_there (seek m rest) ≡ true → seek m all ≡ seek m rest
        found m there =
            let ne : m ≢ n = λ e. let q : is_there {A = Property} none ≡ true = rw (e, a.distinct.0) at there in let z : ◌≡◌ {A = ℕ} 0 1 = cc in omega arith in
            a.found m (ap is_there (seek_other m ne) ∙ there) ∙ seek_other m ne

  module _ (t table pt ptable rows : List ℕ) (parts : ℕ) {cues walks : List ℕ} {all : Members} {i : ℕ} where
    -- an entry that names another member, whose mark stays
    pub mark_other : {cues' walks' : List ℕ} → first_part (point_at pt ptable rows parts i) ≢ n → get_or cues' i 0 ≡ get_or cues i 0 → get_or walks' i 0 ≡ get_or walks i 0
        → Mark t table pt ptable rows cues walks parts all (member n label d rest) i → Mark t table pt ptable rows cues' walks' parts all rest i
    mark_other ne e f (waits w o) =
        waits (record { low = rw e w.low; left = rw e w.left }) (go o)
      where
        go : (seek (first_part (point_at pt ptable rows parts i)) all ≡ none)
            ⊎ (is_there (seek (first_part (point_at pt ptable rows parts i)) (member n label d rest)) ≡ true)
            → (seek (first_part (point_at pt ptable rows parts i)) all ≡ none) ⊎ (is_there (seek (first_part (point_at pt ptable rows parts i)) rest) ≡ true)
        go (inl x) = inl x
        go (inr x) = inr (sym (ap is_there (seek_other (first_part (point_at pt ptable rows parts i)) ne)) ∙ x)
    mark_other ne e f (meets m x y z) =
        meets (record { high = rw e m.high; name = rw e m.name }) x (sym (seek_other (first_part (point_at pt ptable rows parts i)) ne) ∙ y) (f ∙ z)

    -- one that names the member has met none yet
    pub mark_waits : first_part (point_at pt ptable rows parts i) ≡ n → Mark t table pt ptable rows cues walks parts all (member n label d rest) i
        → Waits pt ptable rows cues parts i
    mark_waits e (waits w o) = w
    mark_waits e (meets m x y z) =
        let q : some (property label d) ≡ none = sym seek_own ∙ ap (λ (k : Name). seek k (member n label d rest)) (sym e) ∙ y in
        let b : ◌≡◌ {A = ℕ} 0 1 = cc in
        absurd (omega arith)

    -- and then it has met it
    pub mark_met : Unmet all (member n label d rest) → first_part (point_at pt ptable rows parts i) ≡ n → (row : ℕ) → get_or cues i 0 ≡ met + row
        → key_at t table row ≡ n → get_or walks i 0 ≡ walk_code (walk (point_at pt ptable rows parts i) (object all))
        → Mark t table pt ptable rows cues walks parts all rest i
    mark_met a e row c k w =
        let back : met + row - met ≡ row = omega arith in
        meets (record { high = omega (arith, c); name = rw (c, back) (k ∙ sym e) })
        (rw e (ap is_there (ahead_found a))) (rw e a.distinct.0) w

-- ---- where its walk ends ----

pub walk_ends : (all : Members) {p : Pointer} {n : Name} → p ≡ last n → walk p (object all) ≡ arrives
walk_ends all e = rw e

pub walk_goes : (all : Members) {p q : Pointer} {n : Name} {label : List ℕ} {d : Doc} → seek n all ≡ some (property label d) → p ≡ down n q
    → walk p (object all) ≡ walk q d
walk_goes all f e = rw (e, f)

-- ---- when all members have been met ----

module _ {t table pt ptable rows cues walks : List ℕ} {parts : ℕ} {all : Members} {i : ℕ} (m : Mark t table pt ptable rows cues walks parts all empty i) where
  -- it met one
  pub met_by : met ≤ get_or cues i 0
      → (is_there (seek (first_part (point_at pt ptable rows parts i)) all) ≡ true)
      × (get_or walks i 0 ≡ walk_code (walk (point_at pt ptable rows parts i) (object all)))
  met_by h = go m
    where
      go : Mark t table pt ptable rows cues walks parts all empty i
          → (is_there (seek (first_part (point_at pt ptable rows parts i)) all) ≡ true)
          × (get_or walks i 0 ≡ walk_code (walk (point_at pt ptable rows parts i) (object all)))
      go (waits w o) = absurd (omega (arith, w.low))
      go (meets x a b c) = (a, c)

  -- it met none, and there is none of its part's name
  pub waits_by : get_or cues i 0 < met → Waits pt ptable rows cues parts i × (seek (first_part (point_at pt ptable rows parts i)) all ≡ none)
  waits_by h = go m
    where
      go : Mark t table pt ptable rows cues walks parts all empty i
          → Waits pt ptable rows cues parts i × (seek (first_part (point_at pt ptable rows parts i)) all ≡ none)
      go (waits w (inl o)) = (w, o)
      go (waits w (inr o)) = let z : ◌≡◌ {A = ℕ} 0 1 = cc in absurd (omega arith)
      go (meets x a b c) = absurd (omega (arith, x.high))

-- the pointer at a place of the list is that of the entry which stands at its row
pub point_in : (pt : List ℕ) {ptable : List ℕ} (rows : List ℕ) (parts i : ℕ) {h : Forest} → KnownAt ptable (get_or rows i 0) h
    → point_at pt ptable rows parts i ≡ pointer_in pt parts h
point_in pt rows parts i v = rw ((value_row v).name_starts, (value_row v).name_ends)

pub adds_there : (all : Members) (p : Pointer) (c : Change) → is_there (seek (first_part p) all) ≡ true → adds all (entry p c) ≡ none
adds_there all (last n) remove e = refl
adds_there all (last n) (set v) e = go (seek n all) e
  where
    go : (o : Option Property) → is_there o ≡ true → freshly o v ≡ none
    go none q = let z : ◌≡◌ {A = ℕ} 0 1 = cc in absurd (omega arith)
    go (some s) q = refl
adds_there all (down n p) c e = refl

pub adds_lacking : (all : Members) (p : Pointer) (c : Change) (d : Doc) → seek (first_part p) all ≡ none → p ≡ last (first_part p)
    → adds all (entry p c) ≡ kept_by (some c) d
adds_lacking all (last n) remove d e l = refl
adds_lacking all (last n) (set v) d e l = rw e
adds_lacking all (down n p) c d e l = let z : ◌≡◌ {A = ℕ} 0 1 = cc in absurd (omega arith)

pub walk_lost : (all : Members) {p q : Pointer} → seek (first_part p) all ≡ none → p ≡ down (first_part p) q → walk p (object all) ≡ no_object
walk_lost all {p = last n} e l = let z : ◌≡◌ {A = ℕ} 0 1 = cc in absurd (omega arith)
walk_lost all {p = down n p} e l = rw e

-- ---- marks that stay ----

module _ {t table pt ptable rows cues walks : List ℕ} {parts : ℕ} {all ahead : Members} {i : ℕ} where
  -- where the cue and the byte are as they were
  pub mark_same : {cues' walks' : List ℕ} → get_or cues' i 0 ≡ get_or cues i 0 → get_or walks' i 0 ≡ get_or walks i 0
      → Mark t table pt ptable rows cues walks parts all ahead i → Mark t table pt ptable rows cues' walks' parts all ahead i
  mark_same e f (waits w o) = waits (record { low = rw e w.low; left = rw e w.left }) o
  mark_same e f (meets m x y z) = meets (record { high = rw e m.high; name = rw e m.name }) x y (f ∙ z)

-- one more walk that is marked
pub walked_next : (pt ptable rows : List ℕ) {walks walks' : List ℕ} {lo i : ℕ} (parts : ℕ) (d : Doc) → Walked pt ptable rows walks lo i parts d → Around walks i (i + 1) walks'
    → get_or walks' i 0 ≡ walk_code (walk (point_at pt ptable rows parts i) d) → Walked pt ptable rows walks' lo (i + 1) parts d
walked_next pt ptable rows {i = i} parts d w a e j x y = elim (ℕ_discrete j i) [
  | yes here ↦ rw here e
  | no other ↦ a.under j (omega arith) ∙ w j x (omega arith)
]
