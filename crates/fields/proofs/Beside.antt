-- by_arranged      among sorted places one has the label of its left neighbour exactly if a place has the label of an earlier one
-- found_some       a place that is found is told as Some
-- Assumes nothing.
use Rattle.std.specs.Prelude.{is_some}
use mathlib.Core.Path.{◌≡◌, refl, sym, ap, ◌∙◌}
use mathlib.Core.List.{List}
use Prim.Native.Nat.{ℕ}
use lib.ListN.{length}
use lib.Seq.{slice}
use Rattle.laws.specs.Sorting.{Perm, Sorted, Arranged}
use Rattle.laws.specs.Earliest.{Climbs, Earliest, nowhere, found, least_beside, first_repeat, place_order, place_of}
use Rattle.laws.proofs.Slices.{slice_all}
use Rattle.laws.proofs.Earliest.{by_sorting}
use Rattle.fields.specs.Survey.{is_found}

module _ (label : ℕ → List ℕ) (l : List ℕ) where
  pub by_arranged : (new : List ℕ) → Climbs l → Arranged (place_order label) l 0 (length l) new → is_found (least_beside label new) ≡ is_found (first_repeat label l)
  by_arranged new up s =
      let e : slice 0 (length l) new ≡ new = ap (λ (n : ℕ). slice 0 n new) (sym s.long) ∙ slice_all new in
      let perm : Perm l new = rw (slice_all l, e) at s.perm in
      let sorted : Sorted (place_order label) new = rw e at s.sorted in
      ap is_found (by_sorting label up perm sorted)

pub found_some : (e : Earliest) → is_some (place_of e) ≡ is_found e
found_some nowhere = refl
found_some (found p) = refl
