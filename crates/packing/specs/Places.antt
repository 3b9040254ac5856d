-- Unpacking in the shape of code: a field by its place in the packing. Assumes nothing: these are definitions.
use Rattle.std.specs.Prelude.{ℕ, ◌+◌, ◌*◌, List, cond, ltb}
use Rattle.laws.specs.Lists.{part_of}
use Rattle.text.specs.Text.{byte_at}
use Rattle.packing.specs.Fields.{Cut, torn, field}

-- the length that the head at a place says
abbrev pub length_at : List ℕ → (at : ℕ) → ℕ
length_at p at = byte_at p (at + 1) * 256 + byte_at p (at + 2)

-- the field at a place, of fields that end at `end`
unfoldable pub cut_at : List ℕ → (at end : ℕ) → Cut
cut_at p at end =
    let next : ℕ = at + 3 + length_at p at in
    let whole = field (byte_at p at) (part_of p (at + 3) next) (part_of p next end) in
    cond (ltb end (at + 3)) torn (cond (ltb end next) torn whole)
