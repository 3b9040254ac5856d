-- A run of sorted entries that is parted by a name:
--     before_at                   does the entry at a place of the list stand before the place that is looked for?
--     falling                    where it does, those before it do too, if the entries ascend
--     bound-made                 so a place that is found by halving parts the run
-- Assumes nothing.
use Rattle.std.specs.declared.cmp.Ordering.{Ordering}
use Rattle.std.specs.declared.cmp.Ordering.TheVariants.{Less, Equal, Greater}
use Prim.Native.Nat.{ℕ, ◌≤◌, ◌<◌}
use mathlib.Core.Path.{◌≡◌, refl, sym, ap, ◌∙◌}
use mathlib.Core.Logic.{◌≢◌}
use mathlib.Core.Bool.{Bool, true, false}
use mathlib.Core.List.{List}
use native.Mathlib.Omega.{arith}
use native.Mathlib.Decide.{ℕ_discrete}
use Rattle.laws.specs.Order.{order_of, is_same}
use Rattle.laws.proofs.Orders.{order_trans, same_eq}
use Rattle.laws.proofs.Halving.{Falling, Halved, halved_end}
use Rattle.text.specs.Strings.{name_of}
use Rattle.text.specs.Firsts.{name_start, name_end}
use Rattle.text.specs.Doc.{Name, Members, empty, member, label_at, doc_of}
use Rattle.contact.specs.Pointer.{Pointer, first_part, clash}
use Rattle.pointers.specs.Pointers.{pointer_order}
use Rattle.patch.specs.Entries.{Listed, over, next, stripped}
use Rattle.patch.specs.Marks.{part_at, point_at}
use Rattle.patch.specs.Runs.{LeadsAll, leads_more, InOrder, asc_more, stands_before, Side, side_none, side_more, joined, Bound}
use Rattle.pointers.proofs.Laws.Orders.{first_upto}
use Rattle.patch.proofs.Listing.Orders.{key_is}

-- ---- by the order of names

-- a name that is not Greater than one that stands before the place stands before it too
before_upto : (past : Bool) (f g n : Name) → order_of f g ≢ Greater → stands_before past (order_of g n) ≡ true → stands_before past (order_of f n) ≡ true
before_upto past f g n u e = go (order_of f g) refl
  where
    by_less : (o : Ordering) → order_of g n ≡ o → stands_before past o ≡ true → order_of f g ≡ Less → stands_before past (order_of f n) ≡ true
    by_less Less d a l = rw (order_trans f g n l d)
    by_less Equal d a l = rw (← same_eq g n (ap is_same d), l)
    by_less Greater d a l = let z : ◌≡◌ {A = ℕ} 0 1 = cc in absurd (omega arith)

    go : (o : Ordering) → order_of f g ≡ o → stands_before past (order_of f n) ≡ true
    go Less d = by_less (order_of g n) refl e d
    go Equal d = rw (same_eq f g (ap is_same d)) e
    go Greater d = absurd (u d)

-- ---- the entries of a run

module _ (t table rows : List ℕ) (parts : ℕ) where
  pub leads_at : {p : Pointer} {i n : ℕ} {ms : Members} → Listed t table rows i n ms → LeadsAll p (stripped parts ms) → (l : ℕ) → i ≤ l → l < n
      → (pointer_order p (point_at t table rows parts l) ≡ Less) × (clash p (point_at t table rows parts l) ≡ false)
  unfolding stripped
  leads_at over u l a b = absurd (omega arith)
  leads_at (next {i} g h s k stands r) (leads_more e x u) l a b =
      elim (ℕ_discrete l i) [
        | yes same ↦ rw (same, key_is t g s stands) (e, x)
        | no other ↦ leads_at r u l (omega arith) b
      ]

  module _ (n : Name) (past : Bool) where
    abbrev before_at : ℕ → Bool
    before_at k = stands_before past (order_of (first_part (point_at t table rows parts k)) n)

    falling : {lo hi : ℕ} {ms : Members} → Listed t table rows lo hi ms → InOrder (stripped parts ms) → Falling before_at lo hi
    unfolding stripped
    falling over u k l a b c e = absurd (omega arith)
    falling (next {i} g h s kinds stands r) (asc_more lead u) k l a b c e =
        elim (ℕ_discrete l k) [
          | yes same ↦ rw (← same) e
          | no more ↦ elim (ℕ_discrete k i) [
            | yes first ↦ before_upto past (first_part (point_at t table rows parts k)) (first_part (point_at t table rows parts l)) n
                (first_upto (point_at t table rows parts k) (point_at t table rows parts l)
                (leads_at r (rw (first, key_is t g s stands) lead) l (omega arith) c).0) e
            | no other ↦ falling r u k l (omega arith) b c e
          ]
        ]

    -- what the test says at each place it says of each entry
    sided : {is : Bool} {i r : ℕ} {ms : Members} → Listed t table rows i r ms → ((k : ℕ) → i ≤ k → k < r → before_at k ≡ is)
        → Side past n is (stripped parts ms)
    unfolding stripped
    sided over w = side_none
    sided (next {i} g h s kinds stands l) w = side_more (rw (key_is t g s stands) at (w i (omega arith) h)) (sided l (λ k a b. w k (omega arith) b))

-- ---- a run in two

record Cut (t table rows : List ℕ) (lo r hi : ℕ) (ms : Members) : Type 0 where
  pub left : Members
  pub right : Members
  pub is : ms ≡ joined left right
  pub listed_left : Listed t table rows lo r left
  pub listed_right : Listed t table rows r hi right

module _ {t table rows : List ℕ} where
  cut_first : {i n : ℕ} {ms : Members} → Listed t table rows i n ms → Cut t table rows i i n ms
  unfolding joined
  cut_first {ms = ms} l = record { left = empty; right = ms; is = refl; listed_left = over; listed_right = l }

  cut : {lo hi : ℕ} {ms : Members} → Listed t table rows lo hi ms → (r : ℕ) → lo ≤ r → r ≤ hi → Cut t table rows lo r hi ms
  unfolding joined
  cut {lo} over r a b = let e : r ≡ lo = omega arith in rw e (cut_first over)
  cut (next {i} g h s k stands l) r a b =
      elim (ℕ_discrete r i) [
        | yes e ↦ rw e (cut_first (next g h s k stands l))
        | no more ↦
            let lt : i < r = omega arith in
            let c = cut l r (omega arith) b in
            record {
              left = member (name_of t (name_start g) (name_end g)) (label_at t (name_start g) (name_end g)) (doc_of t g) c.left;
              right = c.right;
              is = ap (λ (ms : Members). member (name_of t (name_start g) (name_end g)) (label_at t (name_start g) (name_end g)) (doc_of t g) ms) c.is;
              listed_left = next g lt s k stands c.listed_left;
              listed_right = c.listed_right;
            }
      ]

-- ---- the place that is found

module _ (t table pt ptable rows cues : List ℕ) (n : Name) (past : Bool) where
  -- the test by the part at hand
  abbrev pub before_by_cue : ℕ → Bool
  before_by_cue k = stands_before past (order_of (part_at t table pt ptable rows cues k) n)

  module _ {lo hi a b : ℕ} (h : Halved before_by_cue lo hi a b) (met : b ≤ a) where
    pub bound_made : Bound t table pt ptable rows cues lo hi n past a
    bound_made =
        record {
          low = h.low;
          high = omega (arith, h.high);
          parted =
              λ parts ms l u cued.
              let same : (k : ℕ) → lo ≤ k → k < hi → before_by_cue k ≡ before_at pt ptable rows parts n past k =
              λ k x y. ap (λ (m : Name). stands_before past (order_of m n)) (cued k x y) in
              let falls = falling pt ptable rows parts n past l u in
              let w = halved_end before_by_cue lo hi h met
              (λ k m x y z e. same k x (omega arith) ∙ falls k m x y z (sym (same m (omega arith) z) ∙ e)) in
              let passes : (k : ℕ) → lo ≤ k → k < a → before_at pt ptable rows parts n past k ≡ true =
              λ k x y. sym (same k x (omega (arith, h.meet, h.high))) ∙ w.passes k x y in
              let fails : (k : ℕ) → a ≤ k → k < hi → before_at pt ptable rows parts n past k ≡ false =
              λ k x y. sym (same k (omega (arith, h.low)) y) ∙ w.fails k x y in
              let c = cut l a h.low (omega (arith, h.high)) in
              record {
                left = c.left;
                right = c.right;
                is = c.is;
                listed_left = c.listed_left;
                listed_right = c.listed_right;
                all_before = sided pt ptable rows parts n past c.listed_left passes;
                none_before = sided pt ptable rows parts n past c.listed_right fails;
                passes = passes;
                fails = fails;
              };
        }
