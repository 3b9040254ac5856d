-- Laws of entries in ascending order, of which a run concerns one member:
--     Named, middle          the run between two bounds has the member's name as first part, and says of the member all that is said of it
--     run_ends               its first pointer ends there: it says what becomes of the member
--     Deep and its laws      its first pointer goes on: all do, nothing is said of the member itself, and the run is for its value, one part further
-- Assumes nothing.
use Rattle.std.specs.declared.cmp.Ordering.{Ordering}
use Rattle.std.specs.declared.cmp.Ordering.TheVariants.{Less, Equal, Greater}
use Prim.Native.Nat.{ℕ, ◌+◌, ◌≤◌, ◌<◌}
use mathlib.Core.Path.{◌≡◌, refl, ap, ◌∙◌}
use mathlib.Core.Logic.{◌≢◌}
use mathlib.Core.Bool.{Bool, true, false, cond}
use mathlib.Core.List.{List, [], ◌∷◌, ◌++◌, append-nil}
use mathlib.Core.Option.{Option, none, some}
use native.Mathlib.Omega.{arith}
use Rattle.laws.specs.Order.{order_of, is_same, same}
use Rattle.laws.proofs.Orders.{order_refl, same_eq, same_refl}
use Rattle.text.specs.Doc.{Name, Doc, Members, empty, member}
use Rattle.contact.specs.Pointer.{Pointer, last, down, pointer_of, first_part}
use Rattle.contact.specs.Patch.{Change, Entry, entry, change_of, mine, under}
use Rattle.pointers.specs.Pointers.{pointer_order, strip}
use Rattle.patch.specs.Entries.{stripped}
use Rattle.patch.specs.Marks.{point_at, Cued}
use Rattle.patch.specs.Runs.{LeadsAll, leads_none, leads_more, InOrder, asc_none, asc_more, stands_before, Side, side_none, side_more, joined, Bound}
use Rattle.patch.specs.Patched.{Said}
use Rattle.pointers.proofs.Laws.Pointers.{strip_on}

-- ---- runs in two parts ----

pub stripped_joined : (j : ℕ) (ls ms : Members) → stripped j (joined ls ms) ≡ stripped j ls ++ stripped j ms
unfolding stripped joined
stripped_joined j empty ms = refl
stripped_joined j (member key label d ls) ms = ap (λ (es : List Entry). entry (strip j (pointer_of key)) (change_of d) ∷ es) (stripped_joined j ls ms)

leads_left : {p : Pointer} (xs ys : List Entry) → LeadsAll p (xs ++ ys) → LeadsAll p xs
leads_left [] ys h = leads_none
leads_left (x ∷ xs) ys (leads_more e c h) = leads_more e c (leads_left xs ys h)

asc_left : (xs ys : List Entry) → InOrder (xs ++ ys) → InOrder xs
asc_left [] ys h = asc_none
asc_left (x ∷ xs) ys (asc_more l h) = asc_more (leads_left xs ys l) (asc_left xs ys h)

asc_right : (xs ys : List Entry) → InOrder (xs ++ ys) → InOrder ys
asc_right [] ys h = h
asc_right (x ∷ xs) ys (asc_more l h) = asc_right xs ys h

side_left : {past : Bool} {n : Name} {is : Bool} (xs ys : List Entry) → Side past n is (xs ++ ys) → Side past n is xs
side_left [] ys h = side_none
side_left (x ∷ xs) ys (side_more e h) = side_more e (side_left xs ys h)

mine_append : (n : Name) (xs ys : List Entry) → mine n xs ≡ none → mine n (xs ++ ys) ≡ mine n ys
mine_append n [] ys e = refl
mine_append n (entry (down m p) c ∷ xs) ys e = mine_append n xs ys e
mine_append n (entry (last m) c ∷ xs) ys e = go (same m n) (mine_append n xs ys) e
  where
    go : (b : Bool) → (mine n xs ≡ none → mine n (xs ++ ys) ≡ mine n ys) → cond b (some c) (mine n xs) ≡ none
        → cond b (some c) (mine n (xs ++ ys)) ≡ mine n ys
    go true more q = let z : ◌≡◌ {A = ℕ} 0 1 = cc in absurd (omega arith)
    go false more q = more q

mine_before : (n : Name) (xs ys : List Entry) → mine n ys ≡ none → mine n (xs ++ ys) ≡ mine n xs
mine_before n [] ys e = e
mine_before n (entry (down m p) c ∷ xs) ys e = mine_before n xs ys e
mine_before n (entry (last m) c ∷ xs) ys e = ap (λ (o : Option Change). cond (same m n) (some c) o) (mine_before n xs ys e)

under_append : (n : Name) (xs ys : List Entry) → under n (xs ++ ys) ≡ under n xs ++ under n ys
under_append n [] ys = refl
under_append n (entry (last m) c ∷ xs) ys = under_append n xs ys
under_append n (entry (down m p) c ∷ xs) ys = go (same m n) (under_append n xs ys)
  where
    go : (b : Bool) → under n (xs ++ ys) ≡ under n xs ++ under n ys
        → cond b (entry p c ∷ under n (xs ++ ys)) (under n (xs ++ ys)) ≡ cond b (entry p c ∷ under n xs) (under n xs) ++ under n ys
    go true more = ap (λ (es : List Entry). entry p c ∷ es) more
    go false more = more

-- ---- entries that do not concern the member ----

-- the test of a side that the name itself is not on
not_same : (past is : Bool) (o : Ordering) → stands_before past o ≡ is → (stands_before past Equal ≡ is → ⊥) → is_same o ≡ false
not_same past is Less e ne = refl
not_same past is Equal e ne = absurd (ne e)
not_same past is Greater e ne = refl

module _ (past : Bool) (n : Name) (is : Bool) (off : stands_before past Equal ≡ is → ⊥) where
  pub aside_mine : {es : List Entry} → Side past n is es → mine n es ≡ none
  aside_mine side_none = refl
  aside_mine (side_more {p = last m} e h) = rw (not_same past is (order_of m n) e off) (aside_mine h)
  aside_mine (side_more {p = down m q} e h) = aside_mine h

  pub aside_under : {es : List Entry} → Side past n is es → under n es ≡ []
  aside_under side_none = refl
  aside_under (side_more {p = last m} e h) = aside_under h
  aside_under (side_more {p = down m q} e h) = rw (not_same past is (order_of m n) e off) (aside_under h)

-- ---- the run of a member ----

-- each has the name as its first part
pub data Named (n : Name) : List Entry → Type 0 where
  named_none : Named n []
  named_more : {p : Pointer} {c : Change} {es : List Entry} → first_part p ≡ n → Named n es → Named n (entry p c ∷ es)

exactly : (o : Ordering) → stands_before false o ≡ false → stands_before true o ≡ true → is_same o ≡ true
exactly Less e f = let z : ◌≡◌ {A = ℕ} 0 1 = cc in absurd (omega arith)
exactly Equal e f = refl
exactly Greater e f = let z : ◌≡◌ {A = ℕ} 0 1 = cc in absurd (omega arith)

differs_before : (f n : Name) → stands_before false (order_of f n) ≡ true → f ≢ n
differs_before f n e q = let o : stands_before false Equal ≡ true = rw (q, order_refl n) at e in let z : ◌≡◌ {A = ℕ} 0 1 = cc in omega arith

differs_after : (f n : Name) → stands_before true (order_of f n) ≡ false → f ≢ n
differs_after f n e q = let o : stands_before true Equal ≡ false = rw (q, order_refl n) at e in let z : ◌≡◌ {A = ℕ} 0 1 = cc in omega arith

between : {n : Name} {es : List Entry} → Side false n false es → Side true n true es → Named n es
between side_none side_none = named_none
between {n} (side_more {p = p} e h) (side_more f k) = named_more (same_eq (first_part p) n (exactly (order_of (first_part p) n) e f)) (between h k)

-- what the run from a up to b, of the one from lo up to hi that lists the members ms, says of the member n; and where its name is the first part
pub record Middle (t table rows : List ℕ) (lo hi a b parts : ℕ) (n : Name) (ms : Members) : Type 0 where
  pub run : Members
  pub first : (i : ℕ) → a ≤ i → i < b → first_part (point_at t table rows parts i) ≡ n
  pub before : (i : ℕ) → lo ≤ i → i < a → first_part (point_at t table rows parts i) ≢ n
  pub after : (i : ℕ) → b ≤ i → i < hi → first_part (point_at t table rows parts i) ≢ n
  pub said : Said t table rows a b parts run
  pub names : Named n (stripped parts run)
  pub its_mine : mine n (stripped parts ms) ≡ mine n (stripped parts run)
  pub its_under : under n (stripped parts ms) ≡ under n (stripped parts run)

module _ (j : ℕ) (n : Name) (ls ms rs : Members) where
  middle_mine : Side false n true (stripped j ls) → Side true n false (stripped j rs)
      → mine n (stripped j (joined ls (joined ms rs))) ≡ mine n (stripped j ms)
  middle_mine before after =
      let l = aside_mine false n true (λ e. let z : ◌≡◌ {A = ℕ} 0 1 = cc in omega arith) before in
      let r = aside_mine true n false (λ e. let z : ◌≡◌ {A = ℕ} 0 1 = cc in omega arith) after in
      rw (stripped_joined j ls (joined ms rs), stripped_joined j ms rs)
      (mine_append n (stripped j ls) (stripped j ms ++ stripped j rs) l ∙ mine_before n (stripped j ms) (stripped j rs) r)

  middle_under : Side false n true (stripped j ls) → Side true n false (stripped j rs)
      → under n (stripped j (joined ls (joined ms rs))) ≡ under n (stripped j ms)
  middle_under before after =
      let l = aside_under false n true (λ e. let z : ◌≡◌ {A = ℕ} 0 1 = cc in omega arith) before in
      let r = aside_under true n false (λ e. let z : ◌≡◌ {A = ℕ} 0 1 = cc in omega arith) after in
      rw (stripped_joined j ls (joined ms rs), stripped_joined j ms rs)
      (under_append n (stripped j ls) (stripped j ms ++ stripped j rs)
      ∙ rw (l, under_append n (stripped j ms) (stripped j rs), r) (append-nil (under n (stripped j ms))))

pub middle : {ct ctable t table rows cues : List ℕ} {lo hi : ℕ} {n : Name} {a b : ℕ} (parts : ℕ) {ms : Members} → Said t table rows lo hi parts ms
    → Cued ct ctable t table rows cues lo hi parts → Bound ct ctable t table rows cues lo hi n false a → Bound ct ctable t table rows cues a hi n true b
    → Middle t table rows lo hi a b parts n ms
middle {t = t} {table = table} {rows = rows} {n = n} {a = a} {b = b} j {ms = ms} s cued x y =
    let p = x.parted j ms s.listed s.ascending cued in
    let whole : InOrder (stripped j p.left ++ stripped j p.right) = rw (p.is, stripped_joined j p.left p.right) at s.ascending in
    let q = y.parted j p.right p.listed_right (asc_right (stripped j p.left) (stripped j p.right) whole)
    (λ i u v. cued i (omega (arith, x.low)) v) in
    let right : InOrder (stripped j q.left ++ stripped j q.right) =
    rw (q.is, stripped_joined j q.left q.right) at (asc_right (stripped j p.left) (stripped j p.right) whole) in
    let none : Side false n false (stripped j q.left ++ stripped j q.right) = rw (q.is, stripped_joined j q.left q.right) at p.none_before in
    let is : ms ≡ joined p.left (joined q.left q.right) = p.is ∙ ap (joined p.left) q.is in
    record {
      run = q.left;
      said = record { listed = q.listed_left; ascending = asc_left (stripped j q.left) (stripped j q.right) right; short = s.short };
      first =
          λ i u v.
          let f = first_part (point_at t table rows j i) in
          same_eq f n (exactly (order_of f n) (p.fails i u (omega (arith, y.high))) (q.passes i u v));
      before = λ i u v. differs_before (first_part (point_at t table rows j i)) n (p.passes i u v);
      after = λ i u v. differs_after (first_part (point_at t table rows j i)) n (q.fails i u v);
      names = between (side_left (stripped j q.left) (stripped j q.right) none) q.all_before;
      its_mine = ap (λ (l : Members). mine n (stripped j l)) is ∙ middle_mine j n p.left q.left q.right p.all_before q.none_before;
      its_under = ap (λ (l : Members). under n (stripped j l)) is ∙ middle_under j n p.left q.left q.right p.all_before q.none_before;
    }

-- ---- its first pointer ends there ----

pub run_ends : (j : ℕ) (n key label : List ℕ) (d : Doc) (ms : Members) → Named n (stripped j (member key label d ms))
    → strip j (pointer_of key) ≡ last (first_part (strip j (pointer_of key))) → mine n (stripped j (member key label d ms)) ≡ some (change_of d)
unfolding stripped
run_ends j n key label d ms (named_more e h) l = rw (l, e, same_refl n)

-- ---- its first pointer goes on ----

-- so do all: each goes on in the member of the name
pub data Deep (j : ℕ) (n : Name) : Members → Type 0 where
  deep_none : Deep j n empty
  deep_more : {key label : List ℕ} {d : Doc} {ms : Members} {q : Pointer} → strip j (pointer_of key) ≡ down n q → Deep j n ms
      → Deep j n (member key label d ms)

-- a pointer after one that goes on in the member does so too
goes_too : (n : Name) (q p : Pointer) → pointer_order (down n q) p ≡ Less → first_part p ≡ n → (r : Pointer) × (p ≡ down n r)
unfolding pointer_order
goes_too n q (down m r) e f = (r, ap (λ k. down k r) f)
goes_too n q (last m) e f =
    let same_names : order_of n m ≡ Equal = rw f (order_refl n) in
    let more = rw same_names at e in
    let z : ◌≡◌ {A = ℕ} 0 1 = cc in
    absurd (omega arith)

deep_after : (j : ℕ) (n : Name) (q : Pointer) (ms : Members) → LeadsAll (down n q) (stripped j ms) → Named n (stripped j ms) → Deep j n ms
unfolding stripped
deep_after j n q empty l h = deep_none
deep_after j n q (member key label d ms) (leads_more e c l) (named_more f h) = deep_more (goes_too n q (strip j (pointer_of key)) e f).1 (deep_after j n q ms l h)

pub deep : (j : ℕ) (n key label : List ℕ) (d : Doc) (ms : Members) (q : Pointer) → InOrder (stripped j (member key label d ms))
    → Named n (stripped j (member key label d ms)) → strip j (pointer_of key) ≡ down (first_part (strip j (pointer_of key))) q → Deep j n (member key label d ms)
unfolding stripped
deep j n key label d ms q (asc_more l a) (named_more f h) g =
    let first : strip j (pointer_of key) ≡ down n q = g ∙ ap (λ (m : Name). down m q) f in
    deep_more first (deep_after j n q ms (rw first at l) h)

module _ (j : ℕ) (n : Name) where
  pub deep_mine : {ms : Members} → Deep j n ms → mine n (stripped j ms) ≡ none
  unfolding stripped
  deep_mine deep_none = refl
  deep_mine (deep_more e h) = rw e (deep_mine h)

  pub deep_under : {ms : Members} → Deep j n ms → under n (stripped j ms) ≡ stripped (j + 1) ms
  unfolding stripped
  deep_under deep_none = refl
  deep_under (deep_more {key = key} e h) = rw (e, same_refl n, strip_on j (pointer_of key) e, deep_under h)

  deep_leads : {q : Pointer} {ms : Members} → Deep j n ms → LeadsAll (down n q) (stripped j ms) → LeadsAll q (stripped (j + 1) ms)
  unfolding stripped pointer_order
  deep_leads deep_none l = leads_none
  deep_leads (deep_more {key = key} e h) (leads_more o c l) =
      rw (strip_on j (pointer_of key) e) (leads_more (rw (e, order_refl n) at o) (rw (e, same_refl n) at c) (deep_leads h l))

  pub deep_ascending : {ms : Members} → Deep j n ms → InOrder (stripped j ms) → InOrder (stripped (j + 1) ms)
  unfolding stripped
  deep_ascending deep_none a = asc_none
  deep_ascending (deep_more {key = key} e h) (asc_more l a) = rw (strip_on j (pointer_of key) e) (asc_more (deep_leads h (rw e at l)) (deep_ascending h a))
