-- How many values so many bytes can be, for any limits. A value has a byte, and between two of them stands another:
--     values-bytes     a text of the grammar with v values has at least 2 v - 1 bytes
--     many-longer      so where 6 is refused, each text of the grammar that goes on as the text does up to that place has more than twice as many bytes as
--                      there may be values
-- Assumes nothing.
use mathlib.Core.Path.{◌≡◌, refl}
use mathlib.Core.List.{List, [], ◌∷◌, ◌++◌}
use Prim.Native.Nat.{ℕ, ◌+◌, ◌-◌, ◌*◌, ◌≤◌, ◌<◌}
use native.Mathlib.Omega.{arith}
use lib.ListN.{length, take, length-append}
use Rattle.text.specs.Limits.{Limits}
use Rattle.text.specs.Tree.{size}
use Rattle.text.specs.Whole.{Refuses}
use Rattle.text.specs.Grammar.{Phrase, Is, simple, empty, full, element, member, one, comma, closing, JsonText, json_text, tree_of, root_of}
use Rattle.text.specs.Fault.{ValueBreaks, many}
use Rattle.text.specs.Seats.{Head, Seat}
use Rattle.text.proofs.Grammar.Meets.{simple_long}
use Rattle.text.proofs.Grammar.Trees.{size_join, in_few}
use Rattle.text.proofs.Grammar.Refused.{in_each}

part_bytes : {a : Phrase} {w : List ℕ} (d : Is a w) (ns ne at : ℕ) → 2 * size (tree_of d ns ne at) ≤ length w + 1
unfolding tree_of size
part_bytes (simple {w} k l) ns ne at = omega (arith, simple_long k w l)
part_bytes (empty {s} b p) ns ne at = omega (arith, length-append s (closing b ∷ []))
part_bytes (full {s} {w} b p d) ns ne at =
    omega (arith, part_bytes d 0 0 (at + 1 + length s), length-append s (w ++ closing b ∷ []), length-append w (closing b ∷ []))
part_bytes (element d) ns ne at = part_bytes d 0 0 at
part_bytes (member {m} {s} {r} {w} g p o d) ns ne at =
    omega (
      arith,
      part_bytes d (at + 1) (at + length m - 1) (at + length m + length s + 1 + length r),
      length-append m (s ++ 0x3A ∷ (r ++ w)),
      length-append s (0x3A ∷ (r ++ w)),
      length-append r w,
    )
part_bytes (one {v} {s} d p) ns ne at = omega (arith, part_bytes d 0 0 at, length-append v s)
part_bytes (comma {v} {s} {r} {w} d p o e) ns ne at =
    let to = at + length v + length s + 1 + length r in
    omega (
      arith,
      part_bytes d 0 0 at,
      part_bytes e 0 0 to,
      size_join (tree_of d 0 0 at) (tree_of e 0 0 to),
      length-append v (s ++ 0x2C ∷ (r ++ w)),
      length-append s (0x2C ∷ (r ++ w)),
      length-append r w,
    )

pub values_bytes : {t : List ℕ} (j : JsonText t) → 2 * size (root_of j) ≤ length t + 1
unfolding root_of
values_bytes (json_text {s} {w} {r} p d o) = omega (arith, part_bytes d 0 0 (length s), length-append s (w ++ r), length-append w r)

-- a value after as many others as there may be
too_many : {L : Limits} {t : List ℕ} {d : Seat} {h : Head} {n p : ℕ} → ValueBreaks L t d h n p → n ≡ 6 → d.after ≡ L.values
too_many (many e) k = e
too_many (ValueBreaks.character s q l z i) k = absurd (omega arith)
too_many (ValueBreaks.repeated u e q z i) k = absurd (omega arith)
too_many (ValueBreaks.deep o e) k = absurd (omega arith)

pub many_longer : (L : Limits) (t : List ℕ) → length t ≤ L.bytes → (p : ℕ) → Refuses L t 6 p → (rest : List ℕ) → JsonText (take (p + 1) t ++ rest)
    → 2 * L.values < length (take (p + 1) t ++ rest)
many_longer L t short p r rest j =
    let b = in_each L t short 6 p r (omega arith) rest j in
    omega (arith, values_bytes j, in_few b.there, too_many b.breaks refl)
