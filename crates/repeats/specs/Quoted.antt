-- The decoded bytes of a string that stands in a text, from a place inside it up to its closing quote, so that two names can be compared without
-- looking for their ends first: a comparison then costs no more than the shorter of the two.
-- Assumes nothing: these are definitions.
use Rattle.std.specs.Prelude.{ℕ, ◌+◌, List, [], cond, length, eqb}
use Rattle.laws.specs.Scan.{scan}
use Rattle.text.specs.Text.{byte_at}
use Rattle.text.specs.Strings.{Piece, stop, piece_by, on_piece}

-- what stands at a place: nothing at a raw quote, else what decoding finds there
unfoldable pub inner_piece : List ℕ → ℕ → ℕ → Piece
inner_piece t i b = let p = piece_by t i b in cond (eqb b 34) stop p

-- one turn
abbrev pub quoted_body : List ℕ → (ℕ → List ℕ) → ℕ → List ℕ
quoted_body t k i = on_piece k i (inner_piece t i (byte_at t i))

-- from a place on
unfoldable pub quoted_from : List ℕ → ℕ → List ℕ
quoted_from t i = scan (quoted_body t) [] (length t) i

-- the decoded name whose opening quote is at a place, from k bytes behind the quote on
abbrev pub tail_at : List ℕ → (k : ℕ) → ℕ → List ℕ
tail_at t k p = quoted_from t (p + k)
