-- A cursor over a string's inner bytes: what it hands out next, and what it still has to hand out. Assumes nothing: these are definitions.
use Rattle.std.specs.Prelude.{Option, Some, None, Result, Ok, Err}
use Rattle.text.specs.declared.Fault.{Fault}
use Rattle.std.specs.Prelude.{ℕ, ◌+◌, ◌/◌, ◌%◌, List, [], ◌∷◌, ◌++◌, cond, ltb, eqb}
use Rattle.text.specs.Text.{byte_at}
use Rattle.text.specs.Chars.{escape_at}
use Rattle.text.specs.Strings.{decode_from}
use Rattle.text.specs.Utf8.{conts}
use Rattle.json_reader.specs.declared.decode.Cursor.{Cursor}

-- the bytes that a cursor still has to hand out: what is left of a character, and all after it
abbrev pub rest : List ℕ → Cursor → List ℕ
rest t c = conts c.left c.code ++ decode_from t c.at

-- the bytes that an answer stands for: the byte handed out and all that the cursor has after it; none if it is over
abbrev pub unread : List ℕ → Option (ℕ × Cursor) → List ℕ
unread t (Some (b, c)) = b ∷ rest t c
unread t None = []

-- ---- the answer itself

-- a cursor with its three fields
abbrev pub cursor : (at code left : ℕ) → Cursor
cursor at code left = record { at = at; code = code; left = left }

-- the first byte of a code point's UTF-8; the cursor goes on with the others, and then at a place
unfoldable pub first_of : (code at : ℕ) → Option (ℕ × Cursor)
first_of code at =
    cond (ltb code 128) (Some (code, cursor at code 0))
    (cond (ltb code 2048) (Some (192 + code / 64 % 32, cursor at code 1))
    (cond (ltb code 65536) (Some (224 + code / 4096 % 16, cursor at code 2))
    (Some (240 + code / 262144 % 8, cursor at code 3))))

-- an escape's character; a broken escape ends what is handed out
abbrev pub escaped : ℕ → Result (Option (ℕ × ℕ)) (Fault ℕ) → Option (ℕ × Cursor)
escaped at (Ok None) = None
escaped at (Ok (Some (code, n))) = first_of code (at + n)
escaped at (Err r) = None

-- where a character begins: a raw byte is handed out as it is
unfoldable pub fresh_of : List ℕ → ℕ → Option (ℕ × Cursor)
fresh_of t at =
    let b = byte_at t at in
    cond (eqb b 256) None (cond (eqb b 92) (escaped at (escape_at t at)) (Some (b, cursor (at + 1) 0 0)))

-- the next byte: a continuation byte that is left, or the first of the next character
unfoldable pub next_of : List ℕ → Cursor → Option (ℕ × Cursor)
next_of t c =
    let at = c.at in
    let code = c.code in
    cond (eqb c.left 0) (fresh_of t at)
    (cond (eqb c.left 1) (Some (128 + code % 64, cursor at code 0))
    (cond (eqb c.left 2) (Some (128 + code / 64 % 64, cursor at code 1))
    (Some (128 + code / 4096 % 64, cursor at code 2))))
