-- Names behind what they all begin with, of a whole list:
--     all_same        the first repeat is the same
--     all-common      it is the least neighbour of the sorted places
--     all-ascend      names that ascend repeat none
-- Assumes nothing.
use mathlib.Core.Path.{◌≡◌, sym, ap, ◌∙◌}
use mathlib.Core.List.{List}
use mathlib.Core.Bool.{true}
use Prim.Native.Nat.{ℕ, ◌+◌}
use native.Mathlib.Omega.{arith}
use lib.ListN.{length}
use lib.Seq.{slice}
use Rattle.laws.specs.Earliest.{nowhere, place_order, first_repeat, least_beside, ascending}
use Rattle.laws.specs.Sorting.{Arranged}
use Rattle.laws.proofs.Slices.{slice_all}
use Rattle.laws.proofs.Searching.{ascending_none}
use Rattle.repeats.specs.Beginning.{Begin}
use Rattle.repeats.specs.Quoted.{tail_at}
use Rattle.repeats.proofs.Beginning.{by_common, common_same}
use Rattle.json_reader.specs.Repeats.{SomeAsks}

module _ (t names : List ℕ) (k : ℕ) (p : SomeAsks t names) (b : Begin t names 0 (length names) k) where
  pub all_same : first_repeat (tail_at t (k + 1)) names ≡ first_repeat (tail_at t 1) names
  all_same =
      let e = slice_all names in
      sym (ap (first_repeat (tail_at t (k + 1))) e) ∙ common_same b (omega arith) (omega arith) (rw e p.climbs) ∙ ap (first_repeat (tail_at t 1)) e

  pub all_common : (new : List ℕ) → Arranged (place_order (tail_at t (k + 1))) names 0 (length names) new → least_beside (tail_at t (k + 1)) new ≡ first_repeat (tail_at t 1) names
  all_common new s =
      let e : slice 0 (length names) new ≡ new = ap (λ (n : ℕ). slice 0 n new) (sym s.long) ∙ slice_all new in
      ap (least_beside (tail_at t (k + 1))) (sym e) ∙ by_common b (omega arith) (omega arith) (rw (slice_all names) p.climbs) s ∙ ap (first_repeat (tail_at t 1)) (slice_all names)

  pub all_ascend : ascending (tail_at t (k + 1)) names ≡ true → first_repeat (tail_at t 1) names ≡ nowhere
  all_ascend e = sym all_same ∙ ascending_none (tail_at t (k + 1)) p.climbs e
