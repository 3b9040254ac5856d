-- The contents of fields, place by place. Assumes nothing: these are definitions.
use Rattle.std.specs.Prelude.{Option, Some, None, Result, Ok, Err}
use Rattle.text.specs.declared.Fault.{Fault}
use Rattle.std.specs.Prelude.{ℕ, ◌+◌, ◌≤◌, ◌<◌, ◌≡◌, List, [], cond, length, get_or, ltb}
use Rattle.text.specs.Text.{byte_at}
use Rattle.text.specs.Chars.{raw_at}
use Rattle.text.specs.Writing.{spelled_byte}

-- the place behind a character that stands at i
abbrev pub behind_step : ℕ → Result (Option (ℕ × ℕ)) (Fault ℕ) → Option ℕ
behind_step i (Ok None) = None
behind_step i (Ok (Some (code, n))) = Some (i + n)
behind_step i (Err r) = None

-- the place behind the character at i, ASCII or raw, where one stands
unfoldable pub char_end : List ℕ → ℕ → Option ℕ
char_end w i = let longer = behind_step i (raw_at w i (byte_at w i)) in cond (ltb (byte_at w i) 128) (Some (i + 1)) longer

-- a byte that stands for itself in a string: no control, no quote and no backslash
pub record Own (b : ℕ) : Type 0 where
  pub low : 32 ≤ b
  pub no_quote : b ≡ 34 → ⊥
  pub no_slash : b ≡ 92 → ⊥

-- the first n bytes are such
pub record OwnRun (w : List ℕ) (n : ℕ) : Type 0 where
  pub within : n ≤ length w
  pub own : (i : ℕ) → i < n → Own (get_or w i 0)

-- how the byte at a place is spelled, if there is one
abbrev pub spelled_at : List ℕ → ℕ → List ℕ
spelled_at w i = cond (ltb i (length w)) (spelled_byte (get_or w i 0)) []
