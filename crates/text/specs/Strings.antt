-- Where a string ends, and what its bytes decode to.
-- Assumes nothing: these are definitions.
use Rattle.std.specs.Prelude.{Option, Some, None, Result, Ok, Err}
use Rattle.text.specs.declared.Fault.{Fault}
use Rattle.text.specs.declared.Fault.TheVariants.{Malformed, Forbidden}
use Rattle.std.specs.Prelude.{ℕ, ◌+◌, ◌-◌, List, [], ◌∷◌, ◌++◌, cond, length, eqb}
use Rattle.laws.specs.Lists.{part_of}
use Rattle.text.specs.Text.{byte_at}
use Rattle.laws.specs.Scan.{scan}
use Rattle.text.specs.Utf8.{utf8}
use Rattle.text.specs.Chars.{escape_at, step_at}

-- ---- where a string ends (8259: string = quotation-mark *char quotation-mark)

-- what a step at i says of the string, given what stands from later places on
abbrev pub on_step : (ℕ → Result ℕ (Fault ℕ)) → ℕ → Result (Option (ℕ × ℕ)) (Fault ℕ) → Result ℕ (Fault ℕ)
on_step k i (Ok None) = Ok (i + 1)
on_step k i (Ok (Some (code, n))) = k (i + n)
on_step k i (Err r) = Err r

-- one turn of the walk to the end of a string
abbrev pub end_body : List ℕ → (ℕ → Result ℕ (Fault ℕ)) → ℕ → Result ℕ (Fault ℕ)
end_body t k i = on_step k i (step_at t i)

-- from a place inside a string: the place after its closing quote, or the first refusal
unfoldable pub string_end : List ℕ → ℕ → Result ℕ (Fault ℕ)
string_end t i = scan (end_body t) (Err (Malformed 0)) (length t) i

-- ---- decoding (docs/RULES.md, 3.4 and 3.5: names and strings are decoded before use)

-- what one step of decoding gives: some bytes, and how many it read; or no more
pub data Piece : Type 0 where
  stop : Piece
  piece : List ℕ → ℕ → Piece

-- a character gives its UTF-8
abbrev pub piece_of : Result (Option (ℕ × ℕ)) (Fault ℕ) → Piece
piece_of (Ok None) = stop
piece_of (Ok (Some (code, n))) = piece (utf8 code) n
piece_of (Err r) = stop

-- a raw byte stands for itself, an escape for the bytes of its code point; nothing follows the end or a broken escape
unfoldable pub piece_by : List ℕ → ℕ → ℕ → Piece
piece_by t i b =
    let escape = piece_of (escape_at t i) in
    cond (eqb b 256) stop (cond (eqb b 92) escape (piece (b ∷ []) 1))

-- the bytes of a piece at i, and then what is decoded from after it on
abbrev pub on_piece : (ℕ → List ℕ) → ℕ → Piece → List ℕ
on_piece k i stop = []
on_piece k i (piece bs n) = bs ++ k (i + n)

-- one turn of decoding
abbrev pub decode_body : List ℕ → (ℕ → List ℕ) → ℕ → List ℕ
decode_body t k i = on_piece k i (piece_by t i (byte_at t i))

-- the decoded bytes of a string's inner bytes t, from the place i on
unfoldable pub decode_from : List ℕ → ℕ → List ℕ
decode_from t i = scan (decode_body t) [] (length t) i

-- the decoded bytes of a string's inner bytes
abbrev pub decode : List ℕ → List ℕ
decode t = decode_from t 0

-- the decoded name whose bytes, without quotes, stand from s up to e
abbrev pub name_of : List ℕ → ℕ → ℕ → List ℕ
name_of t s e = decode (part_of t s e)

-- the decoded content of a string's token, quotes included
abbrev pub content_of : List ℕ → List ℕ
content_of token = decode (part_of token 1 (length token - 1))
