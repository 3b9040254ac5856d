-- The field at a place, by the bytes of its head: too few bytes, too long a content, or a field (`cut_few`, `cut_over`, `cut_field`). Assumes nothing.
use mathlib.Core.Path.{◌≡◌, refl, ap₂, ◌∙◌}
use mathlib.Core.List.{List}
use Prim.Native.Nat.{ℕ, ◌+◌, ◌*◌, ◌≤◌, ◌<◌}
use native.Mathlib.Omega.{arith}
use lib.ListN.{length, get_or}
use borrow.Author.Tests.{lt-ltb, le-ltb}
use Rattle.laws.specs.Lists.{part_of}
use Rattle.laws.proofs.Places.{any_default}
use Rattle.packing.specs.Fields.{torn, cut}
use Rattle.packing.specs.Places.{length_at, cut_at}
use Rattle.packing.proofs.Places.{cut_at_lem}
use Rattle.vault.specs.Cuts.{FieldTo}

module _ (p : List ℕ) (at end : ℕ) (h : at ≤ end) (l : end ≤ length p) where
  pub cut_few : end < at + 3 → cut (part_of p at end) ≡ torn
  unfolding cut_at
  cut_few k = cut_at_lem p at end h l ∙ rw (lt-ltb end (at + 3) k)

  module _ (k : at + 3 ≤ end) where
    -- the length, by the bytes of the slice
    long : length_at p at ≡ get_or p (at + 1) 0 * 256 + get_or p (at + 2) 0
    long = ap₂ (λ (a b : ℕ). a * 256 + b) (any_default 256 0 p (at + 1) (omega arith)) (any_default 256 0 p (at + 2) (omega arith))

    pub cut_over : end < at + 3 + (get_or p (at + 1) 0 * 256 + get_or p (at + 2) 0) → cut (part_of p at end) ≡ torn
    unfolding cut_at
    cut_over g = cut_at_lem p at end h l ∙ rw (le-ltb end (at + 3) k, long, lt-ltb end (at + 3 + (get_or p (at + 1) 0 * 256 + get_or p (at + 2) 0)) g)

    pub cut_field : at + 3 + (get_or p (at + 1) 0 * 256 + get_or p (at + 2) 0) ≤ end
        → FieldTo p at end record { tag = get_or p at 0; from = at + 3; end = at + 3 + (get_or p (at + 1) 0 * 256 + get_or p (at + 2) 0) }
    unfolding cut_at
    cut_field g =
        record {
          is =
              cut_at_lem p at end h l
              ∙ rw (le-ltb end (at + 3) k, long, le-ltb end (at + 3 + (get_or p (at + 1) 0 * 256 + get_or p (at + 2) 0)) g, any_default 256 0 p at (omega arith));
          start = refl;
          from = omega arith;
          within = g;
        }
