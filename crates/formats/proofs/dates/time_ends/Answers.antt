-- `formats::dates::time_ends` meets its contract: what the cursor says after the first byte decides. Assumes nothing.
use Rattle.std.specs.Prelude.{Option, Some, None}
use Rattle.std.specs.Option.{is_some}
use mathlib.Core.Path.{◌≡◌, sym, ◌∙◌}
use mathlib.Core.List.{List, ◌∷◌}
use mathlib.Core.Bool.{Bool, true, false, not}
use Prim.Native.Nat.{ℕ}
use Rattle.json_reader.specs.declared.decode.Cursor.{Cursor}
use Rattle.json_reader.specs.Cursors.{rest, unread}
use Rattle.formats.proofs.Laws.Times.{on, off}
use Rattle.contact.specs.Dates.{ends}
use Rattle.json_reader.proofs.Unread.{byte_left, none_left}
use Rattle.formats.proofs.Laws.Times.{ends_fraction, ends_other, ends_here, ends_later}
use Rattle.formats.proofs.dates.time_ends.Goals as goal

pub returns-in_default : goal.returns-in_default
unfolding ends
returns-in_default c =
    let a = c.args in
    rw (none_left a.content.now a.from c.next_byte.ensures.result_value c.in_default.is)

pub returns-then-b-eq46 : goal.returns-then-b-eq46
returns-then-b-eq46 c =
    let a = c.args in
    let next_byte = c.next_byte in
    rw (byte_left a.content.now a.from next_byte.ensures.result_value c.in-Some.is)
    (c.fraction_ends.ensures ∙ sym (ends_fraction _ _ c.if-b-eq46.true))

pub returns-then-b-ne90 : goal.returns-then-b-ne90
returns-then-b-ne90 c =
    let a = c.args in
    let next_byte = c.next_byte in
    rw (byte_left a.content.now a.from next_byte.ensures.result_value c.in-Some.is) (sym (ends_other _ _ c.if-b-eq46.false c.if-b-ne90.true))

pub returns : goal.returns
returns c =
    let a = c.args in
    let content = a.content.now in
    let after = c.in-Some.after in
    rw (byte_left content a.from c.next_byte.ensures.result_value c.in-Some.is)
    (over (rest content after) _ c.next_byte-2.result c.next_byte-2.ensures.result_value c.is_none.ensures)
  where
    over : (l : List ℕ) → (none : Bool) → (o : Option (ℕ × Cursor)) → unread c.args.content.now o ≡ l → is_some o ≡ not none → none ≡ ends (c.in-Some.b ∷ l)
    over l none (Some (x, on)) u e = let z : none ≡ false = off none e in rw z (sym (ends_later _ _ c.if-b-ne90.false (sym u)))
    over l none None u e = let z : none ≡ true = on none e in rw z (sym (ends_here _ _ c.if-b-ne90.false (sym u)))
