-- `formats::dates::closes` meets its contract: what the cursor says after the byte decides. Assumes nothing.
use Rattle.std.specs.Prelude.{Option, Some, None}
use Rattle.std.specs.Option.{is_some}
use mathlib.Core.Path.{◌≡◌, sym}
use mathlib.Core.List.{List, ◌∷◌}
use mathlib.Core.Bool.{Bool, true, false, not}
use Prim.Native.Nat.{ℕ}
use Rattle.contact.specs.Dates.{fraction_ends}
use Rattle.json_reader.specs.declared.decode.Cursor.{Cursor}
use Rattle.json_reader.specs.Cursors.{rest, unread}
use Rattle.formats.proofs.Laws.Times.{fraction_other, fraction_nought, fraction_end, fraction_more, on, off}
use Rattle.formats.proofs.dates.closes.Goals as goal

pub returns-then-b-ne90 : goal.returns-then-b-ne90
returns-then-b-ne90 c = sym (fraction_other _ _ c.requires _ c.if-b-ne90.true)

pub returns-then-last-eq48 : goal.returns-then-last-eq48
returns-then-last-eq48 c = sym (fraction_nought _ _ c.requires _ c.if-last-eq48.true)

pub returns : goal.returns
returns c =
    let content = c.args.content.now in
    over (rest content c.args.after) _ c.next_byte.result c.next_byte.ensures.result_value c.is_none.ensures
  where
    over : (l : List ℕ) → (none : Bool) → (o : Option (ℕ × Cursor)) → unread c.args.content.now o ≡ l → is_some o ≡ not none
        → none ≡ fraction_ends c.args.last (c.args.b ∷ l)
    over l none (Some (x, on_to)) u e = let z : none ≡ false = off none e in rw z (sym (fraction_more _ _ c.requires _ (sym u)))
    over l none None u e = let z : none ≡ true = on none e in rw z (sym (fraction_end _ _ c.requires _ (sym u) c.if-b-ne90.false c.if-last-eq48.false))
