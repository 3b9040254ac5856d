-- What passing a member of an object does to the marks of a run of entries:
--     passed-out                        a member that is left out
--     its-waiting                       those that name the member wait
--     passed-mine                       the marks past a member, whatever becomes of it
--     ended-all, gone-all               the entries of the member's run end with its name, or all go on
--     passed-ending, passed-going       the marks where they end, and where they go on
--     Staying, staying                  a member that stays in, and its own run
--     waiting-on                        those that go on wait for the members of its value
-- Assumes nothing.
use Prim.Native.Nat.{ℕ, ◌+◌, ◌≤◌, ◌<◌}
use mathlib.Core.Path.{◌≡◌, sym, ap, ◌∙◌}
use mathlib.Core.Bool.{Bool, true, false}
use mathlib.Core.List.{List}
use native.Mathlib.Omega.{arith}
use native.Mathlib.Decide.{ℕ_discrete, dec_le}
use lib.ListN.{get_or}
use borrow.Author.Tests.{ne_eqb}
use Rattle.laws.specs.Order.{same}
use Rattle.laws.proofs.Orders.{same_refl}
use Rattle.text.specs.Tree.{Forest}
use Rattle.text.specs.Firsts.{name_start, name_end, below_at, rest_at}
use Rattle.text.specs.Strings.{name_of}
use Rattle.text.specs.Doc.{Name, Doc, object, Members, member, members_of, label_at, doc_of}
use Rattle.json_reader.specs.Lookup.{KnownAt}
use Rattle.contact.specs.Pointer.{Pointer, last, down, first_part, clash}
use Rattle.contact.specs.Patch.{walk}
use Rattle.pointers.proofs.Laws.Pointers.{strip_on}
use Rattle.patch.specs.Children.{key_at}
use Rattle.patch.specs.Entries.{Listed, over, next, stripped}
use Rattle.patch.specs.Conditions.{walk_code, Walked}
use Rattle.patch.specs.Runs.{InOrder, asc_more, RunOf}
use Rattle.patch.specs.Marks.{met, Around, MetWith, FilledWith, point_at, ShortKeys, Waiting, Advanced, Marked, Unmet}
use Rattle.patch.specs.Patched.{Said, based_all, is_out, OutAt, ends_first, GoOn}
use Rattle.patch.specs.declared.runs.Run.{Run}
use Rattle.patch.proofs.Listing.Orders.{key_is}
use Rattle.patch.proofs.Listing.Runs.{leads_at}
use Rattle.patch.proofs.Listing.Members.{Middle, middle, Deep, deep_more}
use Rattle.patch.proofs.Putting.Walks.{value_row}
use Rattle.patch.proofs.Putting.Additions.{member_of}
use Rattle.patch.proofs.Putting.Patches.{last_ends, goes_deep}
use Rattle.patch.proofs.Putting.Meeting.{marked_cued, ahead_out, ahead_in, ahead_found, mark_other, mark_waits, mark_met, walk_ends, walk_goes}

-- ---- a member that is left out ----

pub passed_out : (root : Bool) (t : List ℕ) {table pt ptable rows cues walks : List ℕ} {row lo hi parts : ℕ} {all : Members} {g : Forest}
    → KnownAt table row g → is_out root (name_of t (name_start g) (name_end g)) ≡ true
    → Marked t table pt ptable rows cues walks lo hi parts all (based_all root (members_of t g))
    → Marked t table pt ptable rows cues walks lo hi parts all (based_all root (members_of t (rest_at g)))
passed_out root t {g = g} v e m i x y = rw (ahead_out root t g v.some e) at (m i x y)

-- ---- one that stays in ----

module _ (t table pt ptable rows : List ℕ) (lo hi a b parts : ℕ) (n : Name) (label : List ℕ) (d : Doc) (all rest ms : Members)
    (m : Middle pt ptable rows lo hi a b parts n ms) where
  its_waiting : {cues walks : List ℕ} → lo ≤ a → b ≤ hi → Marked t table pt ptable rows cues walks lo hi parts all (member n label d rest)
      → Waiting pt ptable rows cues a b parts
  its_waiting x y k i u v = mark_waits n label d rest t table pt ptable rows parts (m.first i u v) (k i (omega arith) (omega arith))

  -- the entries that name it have met it, and where their walks end is marked; the marks of the others are as they were
  passed_mine : (row : ℕ) {cues cues' walks walks' : List ℕ} → Unmet all (member n label d rest)
      → Marked t table pt ptable rows cues walks lo hi parts all (member n label d rest) → Around cues a b cues' → Around walks a b walks'
      → key_at t table row ≡ n → ((i : ℕ) → a ≤ i → i < b → get_or cues' i 0 ≡ met + row)
      → ((i : ℕ) → a ≤ i → i < b → get_or walks' i 0 ≡ walk_code (walk (point_at pt ptable rows parts i) (object all)))
      → Marked t table pt ptable rows cues' walks' lo hi parts all rest
  passed_mine row ahead k ac aw name cue code i x y =
      elim (dec_le a i) [
        | yes from ↦ elim (dec_le b i) [
          | yes past ↦ mark_other n label d rest t table pt ptable rows parts (m.after i past y) (ac.over i past) (aw.over i past) (k i x y)
          | no inside ↦ mark_met n label d rest t table pt ptable rows parts ahead (m.first i from (omega arith)) row (cue i from (omega arith)) name
              (code i from (omega arith))
        ]
        | no early ↦
            let lt : i < a = omega arith in
            mark_other n label d rest t table pt ptable rows parts (m.before i x lt) (ac.under i lt) (aw.under i lt) (k i x y)
      ]

-- the member at a row stays in, and its own run is that from a up to b: it is the first of those ahead, and the entries of the run, which name it, wait
pub record Staying (t table pt ptable rows cues walks : List ℕ) (row lo hi a b parts : ℕ) (root : Bool) (g : Forest) (ms all : Members) : Type 0 where
  pub stays_in : is_out root (name_of t (name_start g) (name_end g)) ≡ false
  pub name : key_at t table row ≡ name_of t (name_start g) (name_end g)
  pub ahead : Unmet all (member_of t g (based_all root (members_of t (rest_at g))))
  pub marked : Marked t table pt ptable rows cues walks lo hi parts all (member_of t g (based_all root (members_of t (rest_at g))))
  pub mid : Middle pt ptable rows lo hi a b parts (name_of t (name_start g) (name_end g)) ms
  pub waiting : Waiting pt ptable rows cues a b parts

pub staying : (t table pt ptable rows : List ℕ) {cues walks : List ℕ} {row leave lo hi parts : ℕ} (root : Bool) {g : Forest} {ms all : Members} {r : Run}
    → KnownAt table row g → OutAt (is_out root (name_of t (name_start g) (name_end g))) leave row (below_at g) → (row ≡ leave → ⊥)
    → Said pt ptable rows lo hi parts ms → Unmet all (based_all root (members_of t g))
    → Marked t table pt ptable rows cues walks lo hi parts all (based_all root (members_of t g))
    → RunOf t table pt ptable rows cues lo hi (key_at t table row) r
    → Staying t table pt ptable rows cues walks row lo hi r.lo r.hi parts root g ms all
staying t table pt ptable rows {cues} {walks} {row} {leave} {lo} {hi} {parts} root {g} {ms} {all} {r} v o ne s ahead m run =
    let n = name_of t (name_start g) (name_end g) in
    let rest = based_all root (members_of t (rest_at g)) in
    let stays = o.is ∙ ne_eqb row leave ne in
    let is = ahead_in root t g v.some stays in
    let marked : Marked t table pt ptable rows cues walks lo hi parts all (member_of t g rest) = λ i x y. rw is at (m i x y) in
    let name : key_at t table row ≡ n = rw ((value_row v).name_starts, (value_row v).name_ends) in
    let mid = middle parts s (marked_cued t table pt ptable rows parts m) (rw name at run.from) (rw name at run.to) in
    record {
      stays_in = stays;
      name = name;
      ahead = rw is at ahead;
      marked = marked;
      mid = mid;
      waiting = its_waiting t table pt ptable rows lo hi r.lo r.hi parts n (label_at t (name_start g) (name_end g)) (doc_of t g) all rest ms mid run.from.low run.to.high marked;
    }

-- ---- the entries of its run ----

-- the first ends with the name, so there is no other: it would be a prefix of that
ended_all : {t table rows : List ℕ} {lo hi a b parts : ℕ} {n : Name} {ms : Members} (m : Middle t table rows lo hi a b parts n ms)
    → true ≡ ends_first (stripped parts m.run) → (i : ℕ) → a ≤ i → i < b → point_at t table rows parts i ≡ last n
unfolding stripped
ended_all {t} {table} {rows} {a = a} {b = b} {parts = parts} {n = n} m e = go m.said.listed m.said.ascending e m.first
  where
    no_second : (p q : Pointer) → p ≡ last n → first_part q ≡ n → clash p q ≡ false → ⊥
    no_second p (last k) e f c = let s : same n n ≡ false = rw (e, f) at c in let t = same_refl n in let z : ◌≡◌ {A = ℕ} 0 1 = cc in omega arith
    no_second p (down k q) e f c = let s : same n n ≡ false = rw (e, f) at c in let t = same_refl n in let z : ◌≡◌ {A = ℕ} 0 1 = cc in omega arith

    go : {c : ℕ} {ls : Members} → Listed t table rows c b ls → InOrder (stripped parts ls) → true ≡ ends_first (stripped parts ls)
        → ((i : ℕ) → c ≤ i → i < b → first_part (point_at t table rows parts i) ≡ n) → (i : ℕ) → c ≤ i → i < b → point_at t table rows parts i ≡ last n
    go over asc q first i x y = absurd (omega arith)
    go (next {i = c} g lt some kinds stands l) (asc_more lead u) q first i x y =
        let here = key_is t g some stands in
        let p = point_at t table rows parts c in
        let ends : p ≡ last n = last_ends p (rw here (sym q)) ∙ ap last (first c (omega arith) lt) in
        elim (ℕ_discrete i c) [
          | yes this ↦ rw this ends
          | no later ↦
              let apart = (leads_at t table rows parts l lead i (omega arith) y).1 in
              absurd (no_second p (point_at t table rows parts i) ends (first i x y) (rw here apart))
        ]

-- the first goes on, so all do
pub gone_all : {t table rows : List ℕ} {lo hi a b parts : ℕ} {n : Name} {ms : Members} (m : Middle t table rows lo hi a b parts n ms)
    → false ≡ ends_first (stripped parts m.run) → GoOn t table rows a b parts n
gone_all {t} {table} {rows} {b = b} {parts = parts} {n = n} m e = go m.said.listed (goes_deep m e)
  where
    go : {c : ℕ} {ls : Members} → Listed t table rows c b ls → Deep parts n ls → (i : ℕ) → c ≤ i → i < b
        → (q : Pointer) × (point_at t table rows parts i ≡ down n q)
    go over d i x y = absurd (omega arith)
    go (next {i = c} g lt some kinds stands l) (deep_more {q = q} f d) i x y =
        elim (ℕ_discrete i c) [
          | yes this ↦ (q, rw (this, key_is t g some stands) f)
          | no later ↦ go l d i (omega arith) y
        ]

module _ (t table pt ptable rows : List ℕ) {lo hi a b parts : ℕ} {n : Name} (label : List ℕ) (d : Doc) (all rest : Members) {ms : Members}
    (m : Middle pt ptable rows lo hi a b parts n ms) (ahead : Unmet all (member n label d rest)) {cues walks : List ℕ}
    (k : Marked t table pt ptable rows cues walks lo hi parts all (member n label d rest)) where
  module _ (row : ℕ) (few : row < met) (name : key_at t table row ≡ n) where
    -- they end with the name
    pub passed_ending : {cues' walks' : List ℕ} → true ≡ ends_first (stripped parts m.run) → MetWith cues a b row cues' → FilledWith walks a b 0 walks'
        → Marked t table pt ptable rows cues' walks' lo hi parts all rest
    passed_ending e c w =
        passed_mine t table pt ptable rows lo hi a b parts n label d all rest ms m row ahead k c.filled.around w.around name
        (λ i x y. c.filled.within i x y ∙ c.is few)
        (λ i x y. w.within i x y ∙ sym (ap walk_code (walk_ends all (ended_all m e i x y))))

    -- they go on: their walks end as those of what is left of them do, from the member's value on
    pub passed_going : {cues' walks' : List ℕ} → false ≡ ends_first (stripped parts m.run) → Around cues a b cues'
        → ((i : ℕ) → a ≤ i → i < b → get_or cues' i 0 ≡ met + row) → Around walks a b walks' → Walked pt ptable rows walks' a b (parts + 1) d
        → Marked t table pt ptable rows cues' walks' lo hi parts all rest
    passed_going e ac cue aw w =
        passed_mine t table pt ptable rows lo hi a b parts n label d all rest ms m row ahead k ac aw name cue
        (λ i x y.
        let g = gone_all m e i x y in
        w i x y ∙ ap walk_code (ap (λ (q : Pointer). walk q d) (strip_on parts _ g.1) ∙ sym (walk_goes all (ahead_found n label d rest ahead) g.1)))

-- those that go on wait for the members of its value
pub waiting_on : {pt ptable rows : List ℕ} {a b parts : ℕ} {n : Name} {cues cues' : List ℕ} → GoOn pt ptable rows a b parts n → ShortKeys pt
    → Waiting pt ptable rows cues a b parts → Advanced pt ptable rows a b cues cues' → Waiting pt ptable rows cues' a b (parts + 1)
waiting_on {parts = parts} go short w adv i x y =
    let g = go i x y in
    let on = adv.on short i x y _ g.0 ((w i x y).left ∙ g.1) in
    record { low = on.0; left = on.1 ∙ sym (strip_on parts _ g.1) }
