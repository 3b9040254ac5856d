-- `pointers::parts::coded_at` meets its contract: what is read at a backslash is what is left (`name_read`). Assumes nothing.
use mathlib.Core.Path.{◌≡◌}
use mathlib.Core.List.{◌∷◌}
use native.Mathlib.Omega.{arith}
use Rattle.json_reader.specs.Cursors.{rest, cursor}
use Rattle.json_reader.proofs.Unread.{byte_left}
use Rattle.pointers.proofs.Laws.Glyphs.{name_read}
use Rattle.pointers.proofs.parts.coded_at.Goals as goal

pub returns : goal.returns
returns c =
    let a = c.args in
    let b = c.in_ok-b in
    let read : rest a.name.now (cursor a.at 0 0) ≡ b.b ∷ rest a.name.now b.on =
    rw c.cursor_at.ensures at (byte_left a.name.now c.cursor_at.result c.next_byte.ensures.result_value b.was) in
    name_read a.name.now a.at b.b b.on read (omega arith) c.if-on-ne0.false (omega arith) (omega arith)
