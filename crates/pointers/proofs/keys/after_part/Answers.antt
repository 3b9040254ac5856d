-- `pointers::keys::after_part` meets its contract: what is passed stays in the part (`later_run`), and a cursor behind a `/` is a place. Assumes nothing.
use Rattle.std.specs.Prelude.{Option, Some, None}
use Rattle.json_reader.specs.declared.decode.Cursor.{Cursor}
use Prim.Native.Nat.{ℕ, ◌+◌}
use mathlib.Core.Path.{refl, sym, ◌∙◌}
use mathlib.Core.List.{List}
use native.Mathlib.Omega.{arith}
use Rattle.laws.proofs.Places.{inside}
use Rattle.contact.specs.Pointer.{pointer_of}
use Rattle.json_reader.specs.Cursors.{rest, cursor}
use Rattle.pointers.specs.Parts.{Goes, Crosses, RunTo}
use Rattle.pointers.proofs.Laws.Outcomes.{crossed}
use Rattle.pointers.proofs.Laws.Glyphs.{fresh, later_run, slash_next, over_next, goes_later}
use Rattle.pointers.proofs.keys.after_part.Goals as goal

-- what was asked of a later place of the part is told of this one
onward : (key : List ℕ) (at : ℕ) {to : ℕ} (r : Option Cursor) → RunTo key 47 at to → Goes key (pointer_of (rest key (cursor to 0 0))) r
    → Crosses key (cursor to 0 0) r → Goes key (pointer_of (rest key (cursor at 0 0))) r × Crosses key (cursor at 0 0) r
onward key at r run g x = goes_later key {r = r} (later_run key (cursor at 0 0) refl run) g x

pub returns-in-47 : goal.returns-in-47
returns-in-47 c =
    let key = c.args.key.now in
    let b = sym c.peek.ensures.value ∙ c.in-47.is in
    let next = slash_next key c.written_end-to.result b in
    let g = onward key c.args.at (Some (cursor (c.written_end-to.result + 1) 0 0)) c.written_end-to.ensures next.0 next.1 in
    let i = inside key c.written_end-to.result (omega (arith, b)) in
    record { goes_at = (g.0, omega arith); is = (cursor (c.written_end-to.result + 1) 0 0, g.1, refl) }

pub returns-in-256 : goal.returns-in-256
returns-in-256 c =
    let key = c.args.key.now in
    let next = over_next key c.written_end-to.result (sym c.peek.ensures.value ∙ c.in-256.is) in
    let g = onward key c.args.at None c.written_end-to.ensures next.0 next.1 in
    record { goes_at = g.0; is = g.1 }

pub returns-in_err-next_part-in_default : goal.returns-in_err-next_part-in_default
returns-in_err-next_part-in_default c =
    let n = c.in_err-next_part-in_default.ensures in
    let g = onward c.args.key.now c.args.at None c.written_end-to.ensures (rw c.cursor_at.ensures at n.goes) (rw c.cursor_at.ensures at n.is) in
    rw c.from_residual.ensures (record { goes_at = g.0; is = g.1 })

pub returns-in_ok-next_part-in_default : goal.returns-in_ok-next_part-in_default
returns-in_ok-next_part-in_default c =
    let key = c.args.key.now in
    let d = c.in_ok-next_part-in_default.field-0 in
    let n = c.in_ok-next_part-in_default.ensures in
    let g = onward key c.args.at (Some d) c.written_end-to.ensures (rw c.cursor_at.ensures at n.goes) (rw c.cursor_at.ensures at n.is) in
    let f = crossed key g.1 in
    record { goes_at = (rw (← fresh key d f.0) g.0, f.1); is = (d, g.1, refl) }
