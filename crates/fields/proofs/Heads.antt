-- A field that stands at a place, `drop at p ≡ field_of tag content ++ rest`: its tag, its end, its content, and what stands behind its head and behind it.
-- Assumes nothing.
use mathlib.Core.Path.{◌≡◌}
use mathlib.Core.List.{List, [], ◌∷◌, ◌++◌}
use Prim.Native.Nat.{ℕ, ◌+◌, ◌/◌, ◌%◌, ◌≤◌}
use native.Mathlib.Omega.{arith}
use lib.ListN.{length, drop}
use Rattle.laws.proofs.Splits.{there, first_there, beyond, within, part_there}
use Rattle.text.specs.Text.{byte_at}
use Rattle.packing.specs.Packed.{field_of}
use Rattle.fields.specs.Survey.{next_at, name_at}

module _ (p : List ℕ) (at tag : ℕ) (content rest : List ℕ) (e : drop at p ≡ field_of tag content ++ rest) where
  pub tag_there : byte_at p at ≡ tag
  tag_there = first_there p at tag (length content / 256 ∷ length content % 256 ∷ content ++ rest) e 256

  pub next_there : next_at p at ≡ at + 3 + length content
  next_there =
      let high : byte_at p (at + 1) ≡ length content / 256 = there p at (field_of tag content) rest e 1 256 (omega arith) in
      let low : byte_at p (at + 2) ≡ length content % 256 = there p at (field_of tag content) rest e 2 256 (omega arith) in
      omega arith

  pub inside_there : at + 3 + length content ≤ length p
  inside_there = omega (arith, within p at (field_of tag content) rest e (omega arith))

  pub content_there : drop (at + 3) p ≡ content ++ rest
  content_there = beyond p at (tag ∷ length content / 256 ∷ length content % 256 ∷ []) (content ++ rest) e

  pub rest_there : drop (at + 3 + length content) p ≡ rest
  rest_there = beyond p (at + 3) content rest content_there

  pub name_there : name_at p at ≡ content
  unfolding name_at
  name_there = rw next_there (part_there p (at + 3) content rest content_there inside_there)
