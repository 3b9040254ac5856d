-- The places of names:
--     places-none, places-more                    the walk over members, one by one
--     places-climb                                they stand in their order
--     listing_start, listing-more, listing-end    they are put into a store, one behind the other
-- Assumes nothing.
use mathlib.Core.Path.{◌≡◌, refl, sym, ap, ◌∙◌}
use mathlib.Core.List.{List, [], ◌∷◌, ◌++◌, append_assoc, append-nil}
use mathlib.Core.Bool.{cond}
use Prim.Native.Nat.{ℕ, zero, suc, ◌+◌, ◌*◌, ◌≤◌, ◌<◌}
use native.Mathlib.Omega.{arith}
use native.Mathlib.Decide.{dec_le}
use lib.ListN.{length, set, length-set}
use lib.Dec.{leb}
use lib.Seq.{slice}
use borrow.Author.Tests.{le-leb, lt-leb}
use Rattle.laws.specs.Each.{Some}
use Rattle.laws.specs.Each as each
use Rattle.laws.specs.Earliest.{Climbs, up_none, up_more}
use Rattle.laws.proofs.Scans.{scan_step}
use Rattle.laws.proofs.Slices.{slice_none, slice_set}
use Rattle.fields.specs.Survey.{next_at, places_body, member_places}
use Rattle.fields.specs.Asks.{MembersAsk, Listed}

module _ (p : List ℕ) (end : ℕ) where
  -- ---- one by one

  later : (k l : ℕ → List ℕ) (i : ℕ) → ((j : ℕ) → i < j → k j ≡ l j) → places_body p end k i ≡ places_body p end l i
  later k l i e = ap (λ (w : List ℕ). cond (leb end i) [] (i ∷ w)) (e (next_at p (next_at p i)) (omega arith))

  stops : (k l : ℕ → List ℕ) (i : ℕ) → end ≤ i → places_body p end k i ≡ places_body p end l i
  stops k l i h = rw (le-leb end i h)

  step : (at : ℕ) → member_places p at end ≡ places_body p end (λ k. member_places p k end) at
  unfolding member_places
  step at = scan_step (places_body p end) [] end later stops at

  pub places_none : (at : ℕ) → end ≤ at → member_places p at end ≡ []
  places_none at h = step at ∙ rw (le-leb end at h)

  pub places_more : (at : ℕ) → at < end → member_places p at end ≡ at ∷ member_places p (next_at p (next_at p at)) end
  places_more at h = step at ∙ rw (lt-leb end at h)

  -- ---- in their order

  nothing : {q : ℕ} {ps : List ℕ} → ps ≡ [] → Some (λ x. x ≡ q) ps → ⊥
  nothing e (each.here h) = let z : ◌≡◌ {A = ℕ} 0 1 = cc in omega arith
  nothing e (each.later i) = let z : ◌≡◌ {A = ℕ} 0 1 = cc in omega arith

  from_on : (left at q : ℕ) → end ≤ at + left → Some (λ x. x ≡ q) (member_places p at end) → at ≤ q
  from_on zero at q h i = absurd (nothing (places_none at (omega arith)) i)
  from_on (suc left) at q h i = elim (dec_le end at) [
    | yes k ↦ absurd (nothing (places_none at k) i)
    | no k ↦ first (rw (places_more at (omega arith)) at i) (λ j. from_on left (next_at p (next_at p at)) q (omega arith) j)
  ]
    where
      first : Some (λ x. x ≡ q) (at ∷ member_places p (next_at p (next_at p at)) end)
          → (Some (λ x. x ≡ q) (member_places p (next_at p (next_at p at)) end) → next_at p (next_at p at) ≤ q) → at ≤ q
      first (each.here e) f = omega arith
      first (each.later j) f = let m = f j in omega arith

  climb : (left at : ℕ) → end ≤ at + left → Climbs (member_places p at end)
  climb zero at h = rw (places_none at (omega arith)) up_none
  climb (suc left) at h = elim (dec_le end at) [
    | yes k ↦ rw (places_none at k) up_none
    | no k ↦ rw (places_more at (omega arith))
        (up_more {p = at} (λ q i. let m = from_on end (next_at p (next_at p at)) q (omega arith) i in omega arith) (climb left (next_at p (next_at p at)) (omega arith)))
  ]

  pub places_climb : (at : ℕ) → Climbs (member_places p at end)
  places_climb at = climb end at (omega arith)

-- ---- put into a store

-- so far: n places stand in a store of so many words, and those from `at` on are left
pub record Listing (p : List ℕ) (from end words : ℕ) (store : List ℕ) (n at : ℕ) : Type 0 where
  pub long : length store ≡ words
  pub so_far : slice 0 n store ++ member_places p at end ≡ member_places p from end
  pub spread : 3 + 6 * n ≤ at
  pub few : 6 * n ≤ end + 2

module _ (p : List ℕ) (from end : ℕ) where
  pub listing_start : (store : List ℕ) → 3 ≤ from → Listing p from end (length store) store 0 from
  listing_start store h =
      record { long = refl; so_far = ap (λ (w : List ℕ). w ++ member_places p from end) (slice_none 0 0 store (omega arith) (omega arith)); spread = h; few = omega arith }

  module _ {store₀ store : List ℕ} {n at : ℕ} (m : MembersAsk p store₀ from end) (l : Listing p from end (length store₀) store n at) where
    -- there is room for one more
    pub listing_room : at < end → n < length store
    listing_room h = omega (arith, l.long, l.spread, m.inside, m.fits)

    pub listing_more : (next : ℕ) → next ≡ next_at p (next_at p at) → at < end → Listing p from end (length store₀) (set store n at) (n + 1) next
    listing_more next e h =
        let s = l.spread in
        record {
          long = length-set store n at ∙ l.long;
          so_far = rw (slice_set 0 n store at (omega arith) (listing_room h), append_assoc, e, ← places_more p end at h) l.so_far;
          spread = omega arith;
          few = omega arith;
        }

    pub listing_end : end ≤ at → Listed p from end store n
    listing_end h =
        record {
          are = sym (append-nil (slice 0 n store)) ∙ rw (places_none p end at h) at l.so_far;
          inside = omega (arith, l.long, l.few, m.inside, m.fits);
          few = l.few;
        }
