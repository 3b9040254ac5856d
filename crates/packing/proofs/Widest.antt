-- The content of a document itself is the longest in it (`widest_root`): so 51 is a test of the whole packing's length (`fits_whole`). Assumes nothing.
use mathlib.Core.Path.{◌≡◌, refl}
use mathlib.Core.List.{List, [], ◌++◌}
use mathlib.Core.Logic.{◌↔◌}
use Prim.Native.Nat.{ℕ, ◌+◌, ◌≤◌}
use native.Mathlib.Omega.{arith}
use lib.ListN.{length, length-append}
use Rattle.text.specs.Strings.{content_of}
use Rattle.text.specs.Tree.{Bracket, square, curly}
use Rattle.text.specs.Doc.{Name, Doc, scalar, array, object, Members, empty, member, kind_of}
use Rattle.packing.specs.Packed.{field_of, content_in, name_field, packed, packed_items, name_length, widest, widest_item}
use Rattle.packing.specs.Unpackable.{Fits}

-- the content of a document's own field
abbrev pub inner : Doc → List ℕ
inner (scalar kind token) = content_in kind token
inner (array ms) = packed_items ms square
inner (object ms) = packed_items ms curly

pub packed_field : (d : Doc) → packed d ≡ field_of (kind_of d) (inner d)
packed_field (scalar kind token) = refl
packed_field (array ms) = refl
packed_field (object ms) = refl

pub packed_length : (d : Doc) → length (packed d) ≡ 3 + length (inner d)
packed_length (scalar kind token) = omega arith
packed_length (array ms) = omega arith
packed_length (object ms) = omega arith

name_inside : (b : Bracket) (n : Name) → name_length b n ≤ length (name_field b n)
name_inside square n = omega arith
name_inside curly n = omega arith

mutual
  unfolding widest widest_item

  pub widest_root : (d : Doc) → widest d ≡ length (inner d)
  widest_root (scalar kind token) = refl
  widest_root (array ms) = omega (arith, widest_items ms square)
  widest_root (object ms) = omega (arith, widest_items ms curly)

  widest_items : (ms : Members) (b : Bracket) → widest_item ms b ≤ length (packed_items ms b)
  widest_items empty b = omega arith
  widest_items (member n label d ms) b =
      omega (
        arith,
        name_inside b n,
        widest_root d,
        packed_length d,
        widest_items ms b,
        length-append (name_field b n) (packed d ++ packed_items ms b),
        length-append (packed d) (packed_items ms b),
      )

-- theorem: every content fits exactly if the packing has at most 65,538 bytes
pub fits_whole : (d : Doc) → Fits d ↔ (length (packed d) ≤ 65538)
fits_whole d = let w = widest_root d in let l = packed_length d in (λ h. omega arith, λ h. omega arith)

-- ---- where 51 begins

-- an array of one entry
abbrev pub entry : Doc → Doc
entry d = array (member [] [] d empty)

-- a string of 65,532 bytes in an array fits (as a text of 65,536 bytes: brackets, quotes and plain characters)
pub edge_fits : (token : List ℕ) → length (content_of token) ≡ 65532 → Fits (entry (scalar 5 token))
edge_fits token e = (fits_whole (entry (scalar 5 token))).1 (omega (arith, length-append (field_of 5 (content_of token)) []))

-- one of 65,530 bytes in two arrays doesn't (also a text of 65,536 bytes), though it and the inner array fit
pub edge_wide : (token : List ℕ) → length (content_of token) ≡ 65530 → Fits (entry (entry (scalar 5 token))) → ⊥
edge_wide token e f =
    let l = (fits_whole (entry (entry (scalar 5 token)))).0 f in
    omega (arith, length-append (packed (entry (scalar 5 token))) [], length-append (field_of 5 (content_of token)) [])
