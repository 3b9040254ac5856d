-- Names that stand in a text, compared up to their closing quotes: what a cursor has to hand out before the quote, and how far two names are compared as
-- written. Assumes nothing: these are definitions.
use Rattle.std.specs.Prelude.{Option, Some, None}
use Rattle.std.specs.Prelude.{ℕ, ◌+◌, ◌-◌, ◌≤◌, ◌≡◌, List, [], ◌∷◌, ◌++◌, cond, length, eqb}
use Rattle.laws.specs.Order.{order_of}
use Rattle.text.specs.Text.{byte_at}
use Rattle.text.specs.Utf8.{conts}
use Rattle.repeats.specs.Quoted.{quoted_from}
use Rattle.json_reader.specs.Names.{Raw}
use Rattle.json_reader.specs.declared.decode.Cursor.{Cursor}

-- the bytes that a cursor still has to hand out up to the quote: what is left of a character, and all after it
abbrev pub rest_to : List ℕ → Cursor → List ℕ
rest_to t c = conts c.left c.code ++ quoted_from t c.at

-- the bytes that an answer stands for, up to the quote: the byte handed out and all that the cursor has after it; none if it is over
abbrev pub unread_to : List ℕ → Option (ℕ × Cursor) → List ℕ
unread_to t (Some (b, c)) = b ∷ rest_to t c
unread_to t None = []

-- the byte at a place of a name, 256 where the name is over: at its quote as at the end of the text
unfoldable pub ended : ℕ → ℕ
ended b = cond (eqb b 34) 256 b

-- a byte that means nothing but itself in a name: no quote either
pub record Written (b : ℕ) : Type 0 where
  pub raw : Raw b
  pub no_quote : b ≡ 34 → ⊥

-- The k bytes that two names have in common from two places on decide nothing: behind them the names compare as from there. They stand in the text, so that
-- no place behind them wraps.
pub record CommonFrom (t : List ℕ) (a b k : ℕ) : Type 0 where
  pub ordered : order_of (quoted_from t (a + k)) (quoted_from t (b + k)) ≡ order_of (quoted_from t a) (quoted_from t b)
  pub first : k ≤ length t - a
  pub second : k ≤ length t - b

-- and the names have no more in common, unless a backslash stands there or both are over
pub record AlikeFrom (t : List ℕ) (a b k : ℕ) : Type 0 where
  pub common : CommonFrom t a b k
  pub stops : byte_at t (a + k) ≡ byte_at t (b + k) → (byte_at t (a + k) ≡ 92 → ⊥) → ended (byte_at t (a + k)) ≡ 256
