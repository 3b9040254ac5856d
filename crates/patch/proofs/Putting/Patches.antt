-- Laws of values that are written as the entries of a run leave them:
--     ends_by, no_end           whether the first entry of a run ends with the part at hand
--     stays_out, stays-ends, stays-goes     what becomes of a member, by the run that is between two bounds
--     rest_by, PatchWalk and its laws        a walk along the members of an object, and the members that are added
--     idle-value                            a value of which nothing is said
-- Assumes nothing.
use Rattle.std.specs.Prelude.{Some, None, Option}
use Prim.Native.Nat.{ℕ, ◌+◌, ◌≤◌, ◌<◌}
use mathlib.Core.Path.{◌≡◌, refl, sym, ap, ◌∙◌}
use mathlib.Core.Bool.{Bool, true, false}
use mathlib.Core.List.{List, ◌++◌}
use mathlib.Core.Option.{Option as Maybe, none, some}
use native.Mathlib.Omega.{arith}
use Rattle.text.specs.Tree.{Forest}
use Rattle.text.specs.Tree as T
use Rattle.text.specs.Firsts.{HasFirst, name_start, name_end, inside_at, below_at, rest_at}
use Rattle.text.specs.Strings.{name_of}
use Rattle.text.specs.Doc.{Name, Doc, Members, empty, member, members_of, label_at, doc_of}
use Rattle.text.specs.Writing.{written_members}
use Rattle.text.proofs.Promise.{members_first, members_none}
use Rattle.json_reader.specs.Rows.{below_in}
use Rattle.contact.specs.Pointer.{Pointer, last, down, pointer_of, first_part}
use Rattle.contact.specs.Patch.{Change, Entry, change_of, mine, under, kept, applied}
use Rattle.contact.proofs.Patching.Untouched.{applied_nil}
use Rattle.pointers.specs.Pointers.{strip}
use Rattle.patch.specs.Entries.{Listed, stripped}
use Rattle.patch.specs.Runs.{InOrder}
use Rattle.output.specs.Written.{Wrote}
use Rattle.patch.specs.Patched.{Said, based_all, is_out, OutAt, LeavesOut, BaseAt, kept_by, stays, pointer_in, is_last, is_nothing, ends_first, piece, since, Passed}
use Rattle.pointers.specs.Parts.{GoesAt}
use Rattle.patch.specs.declared.writing.Pen.{Pen}
use Rattle.output.proofs.Bytes.{BytesLeft, left_on, left_as, left_last}
use Rattle.patch.proofs.Putting.Walks.{value_row, Walk, walk_start, walk_here, walk_on, walk_end}
use Rattle.patch.proofs.Listing.Members.{Middle, run_ends, Deep, deep_none, deep, deep_mine, deep_under, deep_ascending, Named}
use Rattle.patch.proofs.Putting.Kept.{linked, kept_linked}
use Rattle.patch.proofs.Putting.Additions.{member_of, First, none_said}
use Rattle.patch.proofs.Putting.Leaving.{out_first, out_rest}

-- ---- the first entry of a run ----

pub goes_last : {p q : Pointer} (key : List ℕ) (o : Option ℕ) → p ≡ q → GoesAt key p o → is_last q ≡ is_nothing o
goes_last {p} key None e f = rw (← e, f)
goes_last {p} key (Some to) e f = rw (← e, f.0)

-- the same the other way: what was answered says whether it ends
pub ended_by : (key : List ℕ) {p : Pointer} (o : Option ℕ) → GoesAt key p o → is_nothing o ≡ true → p ≡ last (first_part p)
ended_by key None g e = g
ended_by key (Some to) g e = let z : ◌≡◌ {A = ℕ} 0 1 = cc in absurd (omega arith)

pub gone_by : (key : List ℕ) {p : Pointer} (o : Option ℕ) → GoesAt key p o → is_nothing o ≡ false → (q : Pointer) × (p ≡ down (first_part p) q)
gone_by key None g e = let z : ◌≡◌ {A = ℕ} 0 1 = cc in absurd (omega arith)
gone_by key (Some to) g e = (_, g.0)

pub ends_by : (t : List ℕ) {table rows : List ℕ} {lo hi parts : ℕ} {ms : Members} {r : Bool} (f : First t table rows lo hi parts ms)
    → is_last (pointer_in t parts f.tree) ≡ r → r ≡ ends_first (stripped parts ms)
unfolding stripped
ends_by t f e = rw f.is (sym e)

pub no_end : {t table rows : List ℕ} {lo hi parts : ℕ} {ms : Members} → Said t table rows lo hi parts ms → hi ≤ lo
    → false ≡ ends_first (stripped parts ms)
unfolding stripped
no_end s h = rw (none_said s.listed h)

pub last_ends : (p : Pointer) → is_last p ≡ true → p ≡ last (first_part p)
last_ends (last n) e = refl
last_ends (down n p) e = let z : ◌≡◌ {A = ℕ} 0 1 = cc in absurd (omega arith)

down_goes : (p : Pointer) → is_last p ≡ false → (q : Pointer) × (p ≡ down (first_part p) q)
down_goes (last n) e = let z : ◌≡◌ {A = ℕ} 0 1 = cc in absurd (omega arith)
down_goes (down n p) e = (p, refl)

-- ---- what becomes of a member ----

pub stays_out : (root : Bool) (n : Name) (es : List Entry) (d : Doc) → is_out root n ≡ true → stays root n es d ≡ none
unfolding stays
stays_out root n es d e = rw e

stays_by : (root : Bool) (n : Name) (es : List Entry) (d : Doc) → is_out root n ≡ false → stays root n es d ≡ kept_by (mine n es) (applied d (under n es))
unfolding stays
stays_by root n es d e = rw e

-- it goes on, or there is none: the run is for the member's value, one part further
pub goes_deep : {t table rows : List ℕ} {from to lo hi parts : ℕ} {n : Name} {ms : Members} (m : Middle t table rows from to lo hi parts n ms)
    → false ≡ ends_first (stripped parts m.run) → Deep parts n m.run
unfolding stripped
goes_deep {parts = parts} {n = n} m e = go m.run m.said.ascending m.names e
  where
    go : (ls : Members) → InOrder (stripped parts ls) → Named n (stripped parts ls) → false ≡ ends_first (stripped parts ls) → Deep parts n ls
    go empty a h q = deep_none
    go (member key label v ls) a h q =
        let g = down_goes (strip parts (pointer_of key)) (sym q) in
        deep parts n key label v ls g.0 a h g.1

module _ {t table rows : List ℕ} {from to lo hi parts : ℕ} {n : Name} {ms : Members} (m : Middle t table rows from to lo hi parts n ms) (root : Bool) (d : Doc)
    (kept_in : is_out root n ≡ false) where
  -- its first pointer ends there: the entry decides
  pub stays_ends : (f : First t table rows lo hi parts m.run) → true ≡ ends_first (stripped parts m.run)
      → stays root n (stripped parts ms) d ≡ kept_by (some (change_of (doc_of t f.tree))) (applied d (under n (stripped parts ms)))
  unfolding stripped
  stays_ends f e =
      let g = f.tree in
      let key = name_of t (name_start g) (name_end g) in
      let label = label_at t (name_start g) (name_end g) in
      let ends : true ≡ is_last (pointer_in t parts g) = e ∙ ap (λ (l : Members). ends_first (stripped parts l)) f.is in
      let names : Named n (stripped parts (member_of t g f.more)) = rw f.is at m.names in
      let its : mine n (stripped parts (member_of t g f.more)) ≡ some (change_of (doc_of t g)) =
      run_ends parts n key label (doc_of t g) f.more names (last_ends (pointer_in t parts g) (sym ends)) in
      stays_by root n (stripped parts ms) d kept_in
      ∙ ap (λ (o : Maybe Change). kept_by o (applied d (under n (stripped parts ms))))
      (m.its_mine ∙ ap (λ (l : Members). mine n (stripped parts l)) f.is ∙ its)

  module _ (e : false ≡ ends_first (stripped parts m.run)) where
    pub stays_goes : stays root n (stripped parts ms) d ≡ some (applied d (stripped (parts + 1) m.run))
    stays_goes =
        let h = goes_deep m e in
        stays_by root n (stripped parts ms) d kept_in
        ∙ rw (m.its_mine, m.its_under, deep_mine parts n h, deep_under parts n h)

    pub said_further : Said t table rows lo hi (parts + 1) m.run
    said_further = record { listed = m.said.listed; ascending = deep_ascending parts n (goes_deep m e) m.said.ascending; short = m.said.short }

-- ---- the members of an object ----

-- the bytes from the values vs on, with the members `more` after them
abbrev pub rest_by : (t : List ℕ) → (root : Bool) → List Entry → (more : Members) → Forest → (first : Bool) → List ℕ
rest_by t root es more vs first = written_members (kept (based_all root (members_of t vs)) es more) first

module _ (t : List ℕ) (root : Bool) (es : List Entry) (more : Members) where
  pub rest_first : (g : Forest) → HasFirst g → (first : Bool)
      → let o = stays root (name_of t (name_start g) (name_end g)) es (doc_of t g) in
      rest_by t root es more g first ≡ piece o first (label_at t (name_start g) (name_end g)) ++ rest_by t root es more (rest_at g) (since o first)
  rest_first g s first =
      let n = name_of t (name_start g) (name_end g) in
      let label = label_at t (name_start g) (name_end g) in
      ap (λ (ms : Members). written_members (kept (based_all root ms) es more) first) (members_first t g s)
      ∙ ap (λ (ms : Members). written_members ms first) (kept_linked root n label (doc_of t g) (members_of t (rest_at g)) es more)
      ∙ linked (stays root n es (doc_of t g)) n label (kept (based_all root (members_of t (rest_at g))) es more) first

  rest_none : (first : Bool) → rest_by t root es more T.none first ≡ written_members more first
  rest_none first = rw (members_none t) (go root)
    where
      go : (b : Bool) → written_members (kept (based_all b empty) es more) first ≡ written_members more first
      go true = refl
      go false = refl

  -- a walk along them, by the row that is left out
  pub record PatchWalk (leave : ℕ) (table : List ℕ) (end : ℕ) (old : List ℕ) (at : ℕ) (total new : List ℕ) (s : Pen) (m : ℕ) : Type 0 where
    pub walk : Walk table end (rest_by t root es more) old at total new s.to s.first m
    pub out : LeavesOut t leave root m walk.values

  module _ {leave : ℕ} {table : List ℕ} {end : ℕ} {old : List ℕ} {at : ℕ} {total : List ℕ} where
    unfoldable pub patch_start : {row : ℕ} {g : Forest} {new : List ℕ} {s : Pen} → BaseAt t table leave row root g → end ≡ row + 1 + below_in table row
        → BytesLeft old at total new s.to (rest_by t root es more (inside_at g) s.first) → PatchWalk leave table end old at total new s (row + 1)
    unfolding walk_start
    patch_start {s = s} b e l = record { walk = walk_start s.first b.value e l; out = b.out }

    module _ {new : List ℕ} {s : Pen} {m : ℕ} (w : PatchWalk leave table end old at total new s m) where
      -- one member more is written, or left out
      unfoldable pub patch_turn : (h : m < end) {new' : List ℕ} {s' : Pen} → let g = w.walk.values in
          Passed new s (stays root (name_of t (name_start g) (name_end g)) es (doc_of t g)) (label_at t (name_start g) (name_end g)) new' s'
          → (next : ℕ) → next ≡ m + 1 + below_in table m → PatchWalk leave table end old at total new' s' next
      unfolding walk_on
      patch_turn h p next e =
          let g = w.walk.values in
          let v = walk_here w.walk h in
          let o = stays root (name_of t (name_start g) (name_end g)) es (doc_of t g) in
          let left = left_on (piece o s.first (label_at t (name_start g) (name_end g))) (rest_by t root es more (rest_at g) (since o s.first))
          (left_as (rest_first g v.some s.first) w.walk.left) p.wrote in
          record { walk = walk_on w.walk h next e (rw p.next left); out = rw (e, (value_row v).below) (out_rest t leave root m g v.some w.out) }

      -- the member at hand
      pub patch_here : (h : m < end) → let g = w.walk.values in OutAt (is_out root (name_of t (name_start g) (name_end g))) leave m (below_at g)
      patch_here h = out_first t leave root m w.walk.values (walk_here w.walk h).some w.out

      -- all are
      pub patch_end : end ≤ m → {last : List ℕ} {r : ℕ} → Wrote new s.to (written_members more s.first) last r → Wrote old at total last r
      patch_end h a = left_last (written_members more s.first) (left_as (rest_none s.first) (walk_end w.walk h)) a

-- ---- values that stay as they are ----

-- nothing is said of them
pub idle_value : {t table rows : List ℕ} {lo hi : ℕ} (parts : ℕ) {ms : Members} (d : Doc) → hi ≤ lo → Listed t table rows lo hi ms
    → applied d (stripped parts ms) ≡ d
unfolding stripped
idle_value parts d h l = rw (none_said l h) (applied_nil d)
