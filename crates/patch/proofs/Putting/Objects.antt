-- An object whose members are met one after the other, each written as the entries leave it; and a value that is none:
--     stray-walked                          where walks end that reach no object
--     members_in, MeetWalk, meet-start, meet-here, meet-turn, meet-end     a walk along the members
-- Assumes nothing.
use Prim.Native.Nat.{ℕ, ◌+◌, ◌≤◌, ◌<◌}
use mathlib.Core.Path.{◌≡◌, refl, ap, ◌∙◌}
use mathlib.Core.Bool.{Bool, true, false}
use mathlib.Core.List.{List}
use native.Mathlib.Omega.{arith}
use borrow.Author.Tests.{ne_eqb}
use Rattle.text.specs.Tree.{square, curly, Forest, leaf, node, size}
use Rattle.text.specs.Tree as T
use Rattle.text.specs.Firsts.{HasFirst, Kinds, kind_at, name_start, name_end, inside_at, below_at, rest_at}
use Rattle.text.specs.Strings.{name_of}
use Rattle.laws.specs.Lists.{part_of}
use Rattle.text.specs.Doc.{scalar, array, object, Members, empty, members_of, label_at, doc_of}
use Rattle.text.specs.Distinct.{Distinct, DistinctMembers}
use Rattle.text.proofs.Promise.{none_at, members_none}
use Rattle.json_reader.specs.Rows.{below_in}
use Rattle.json_reader.specs.Lookup.{KnownAt}
use Rattle.contact.specs.Pointer.{Pointer, last, down}
use Rattle.contact.specs.Patch.{Entry, added, walk}
use Rattle.contact.proofs.Patching.Distinct.{distinct_start}
use Rattle.patch.specs.Conditions.{walk_code, Walked}
use Rattle.patch.specs.Marks.{met, FilledWith, point_at, Waiting, Marked, Unmet}
use Rattle.patch.specs.Patched.{based, based_all, is_out, BaseAt, stays, stray_of, Passed}
use Rattle.patch.specs.declared.writing.Pen.{Pen}
use Rattle.output.proofs.Bytes.{BytesLeft}
use Rattle.patch.proofs.Putting.Walks.{value_row, walk_start, walk_here, walk_on}
use Rattle.patch.proofs.Putting.Patches.{rest_by, PatchWalk, patch_start, patch_turn}
use Rattle.patch.proofs.Putting.Meeting.{waiting_marked, ahead_out, ahead_in, ahead_on}

-- ---- no object ----

stray_array : (root : Bool) (ms : Members) (p : Pointer) → 1 ≡ walk_code (walk p (based root (array ms)))
stray_array true ms (last n) = refl
stray_array true ms (down n p) = refl
stray_array false ms (last n) = refl
stray_array false ms (down n p) = refl

stray_scalar : (root : Bool) (kind : ℕ) (token : List ℕ) (p : Pointer) → 2 ≡ walk_code (walk p (based root (scalar kind token)))
stray_scalar true kind token (last n) = refl
stray_scalar true kind token (down n p) = refl
stray_scalar false kind token (last n) = refl
stray_scalar false kind token (down n p) = refl

stray_code : (root : Bool) (t : List ℕ) (g : Forest) → HasFirst g → Kinds g → (kind_at g ≡ 7 → ⊥) → (p : Pointer)
    → stray_of (kind_at g) ≡ walk_code (walk p (based root (doc_of t g)))
unfolding doc_of
stray_code root t T.none s k not-one p = absurd s
stray_code root t (leaf kind ns ne from to rest) s k not-one p =
    rw (ne_eqb kind 6 (λ e. omega (arith, k.0.most))) (stray_scalar root kind (part_of t from to) p)
stray_code root t (node square ns ne from to inside rest) s k not-one p = stray_array root (members_of t inside) p
stray_code root t (node curly ns ne from to inside rest) s k not-one p = absurd (not-one refl)

pub stray_walked : (root : Bool) (t : List ℕ) {table : List ℕ} (pt ptable rows : List ℕ) {walks walks' : List ℕ} {row lo hi : ℕ} (parts : ℕ) (g : Forest)
    → KnownAt table row g → (kind_at g ≡ 7 → ⊥) → FilledWith walks lo hi (stray_of (kind_at g)) walks'
    → Walked pt ptable rows walks' lo hi parts (based root (doc_of t g))
stray_walked root t pt ptable rows parts g v not-one f i x y =
    f.within i x y ∙ stray_code root t g v.some v.kinds not-one (point_at pt ptable rows parts i)

-- ---- an object ----

-- the members of the value at hand
abbrev pub members_in : (root : Bool) → (t : List ℕ) → Forest → Members
members_in root t g = based_all root (members_of t (inside_at g))

-- its members have distinct names, also without those that are left out
distinct_in : (root : Bool) (t : List ℕ) (g : Forest) → doc_of t g ≡ object (members_of t (inside_at g)) → Distinct (doc_of t g)
    → DistinctMembers (members_in root t g)
distinct_in true t g e h = rw e at (distinct_start (doc_of t g) h)
distinct_in false t g e h = rw e at h

-- the rows of the first of some values
first_rows : (g : Forest) → HasFirst g → 1 + below_at g ≤ size g
unfolding size
first_rows T.none s = absurd s
first_rows (leaf kind ns ne from to rest) s = omega arith
first_rows (node b ns ne from to inside rest) s = omega arith

module _ (t table pt ptable rows : List ℕ) (lo hi parts : ℕ) (root : Bool) (es : List Entry) (all : Members) (leave end : ℕ) (old : List ℕ) (at : ℕ)
    (total : List ℕ) where
  -- a walk along the members, which writes what becomes of them and marks the entries that they meet
  pub record MeetWalk (cues walks new : List ℕ) (s : Pen) (m : ℕ) : Type 0 where
    pub walk : PatchWalk t root es (added all es) leave table end old at total new s m
    pub ahead : Unmet all (based_all root (members_of t walk.walk.values))
    pub marked : Marked t table pt ptable rows cues walks lo hi parts all (based_all root (members_of t walk.walk.values))
    pub few : end ≤ met

  module _ {cues walks new : List ℕ} {s : Pen} {m : ℕ} (w : MeetWalk cues walks new s m) (h : m < end) where
    abbrev here : Forest
    here = w.walk.walk.values

    -- the rows of the member at hand
    pub meet_here : m + 1 + below_at here ≤ met
    meet_here = omega (arith, w.few, w.walk.walk.standing.ends, first_rows here (walk_here w.walk.walk h).some)

    -- it is passed
    pub meet_turn : {cues' walks' new' : List ℕ} {s' : Pen}
        → Passed new s (stays root (name_of t (name_start here) (name_end here)) es (doc_of t here)) (label_at t (name_start here) (name_end here)) new' s'
        → Marked t table pt ptable rows cues' walks' lo hi parts all (based_all root (members_of t (rest_at here)))
        → (next : ℕ) → next ≡ m + 1 + below_in table m → MeetWalk cues' walks' new' s' next
    unfolding patch_turn walk_on
    meet_turn p k next e =
        record { walk = patch_turn t root es (added all es) w.walk h p next e; ahead = go (is_out root (name_of t (name_start here) (name_end here))) refl; marked = k; few = w.few }
      where
        go : (out : Bool) → is_out root (name_of t (name_start here) (name_end here)) ≡ out → Unmet all (based_all root (members_of t (rest_at here)))
        go true q = rw (ahead_out root t here (walk_here w.walk.walk h).some q) at w.ahead
        go false q =
            let n = name_of t (name_start here) (name_end here) in
            ahead_on n (label_at t (name_start here) (name_end here)) (doc_of t here) (based_all root (members_of t (rest_at here)))
            (rw (ahead_in root t here (walk_here w.walk.walk h).some q) at w.ahead)

  -- all are
  pub meet_end : {cues walks new : List ℕ} {s : Pen} {m : ℕ} (w : MeetWalk cues walks new s m) → end ≤ m
      → Marked t table pt ptable rows cues walks lo hi parts all empty
  meet_end {cues = cues} {walks = walks} w h i x y =
      let none : based_all root (members_of t w.walk.walk.values) ≡ empty =
      ap (λ (f : Forest). based_all root (members_of t f)) (none_at w.walk.walk.values w.walk.walk.standing h) ∙ none_based root in
      rw none at (w.marked i x y)
    where
      none_based : (b : Bool) → based_all b (members_of t T.none) ≡ empty
      none_based true = rw (members_none t)
      none_based false = members_none t

-- it begins with the first member
pub meet_start : (t table pt ptable rows : List ℕ) {cues : List ℕ} (walks : List ℕ) {lo hi : ℕ} (parts : ℕ) (root : Bool) (es : List Entry) {leave row end : ℕ}
    {old : List ℕ} {at : ℕ} {total new : List ℕ} {s : Pen} {g : Forest} → BaseAt t table leave row root g → doc_of t g ≡ object (members_of t (inside_at g))
    → end ≡ row + 1 + below_in table row → Waiting pt ptable rows cues lo hi parts
    → BytesLeft old at total new s.to (rest_by t root es (added (members_in root t g) es) (inside_at g) s.first)
    → MeetWalk t table pt ptable rows lo hi parts root es (members_in root t g) leave end old at total cues walks new s (row + 1)
unfolding patch_start walk_start
meet_start t table pt ptable rows walks parts root es {g = g} b o e w l =
    record {
      walk = patch_start t root es (added (members_in root t g) es) b e l;
      ahead = record { found = λ n h. refl; distinct = distinct_in root t g o b.distinct };
      marked = waiting_marked t table pt ptable rows parts walks (members_in root t g) w;
      few = omega (arith, e, b.few, (value_row b.value).below);
    }
