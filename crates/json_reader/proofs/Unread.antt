-- What an answer of the cursor over a string's inner bytes says of the bytes that it has left. All else that reads decoded bytes cites these two.
-- Assumes nothing.
use Rattle.std.specs.Prelude.{Option, Some, None}
use mathlib.Core.Path.{◌≡◌, sym, ap, ◌∙◌}
use mathlib.Core.List.{List, [], ◌∷◌}
use Prim.Native.Nat.{ℕ}
use Rattle.json_reader.specs.Cursors.{rest, unread}
use Rattle.json_reader.specs.declared.decode.Cursor.{Cursor}

module _ (t : List ℕ) (c : Cursor) {r : (Option (ℕ × Cursor))} (e : unread t r ≡ rest t c) where
  pub byte_left : {b : ℕ} {d : Cursor} → r ≡ Some (b, d) → rest t c ≡ b ∷ rest t d
  byte_left g = sym e ∙ ap (unread t) g

  pub none_left : r ≡ None → rest t c ≡ []
  none_left g = sym e ∙ ap (unread t) g
