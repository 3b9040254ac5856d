-- `pointers::parts::next_part` meets its contract. Assumes nothing.
use Rattle.std.specs.Prelude.{Some}
use mathlib.Core.Path.{refl, sym, ap, ◌∙◌}
use native.Mathlib.Omega.{arith}
use lib.ListN.{length}
use Rattle.json_reader.proofs.Unread.{byte_left}
use Rattle.json_reader.specs.Cursors.{rest}
use Rattle.pointers.specs.Parts.{at_end, at_slash, past}
use Rattle.pointers.proofs.Laws.Parts.{tail_on, ends, goes}
use Rattle.pointers.proofs.Laws.Glyphs.{Later, later_past}
use Rattle.pointers.proofs.parts.next_part.Goals as goal

pub loop-b-init : goal.loop-b-init
loop-b-init c = (refl, λ r x. x)

pub returns-in_err-b : goal.returns-in_err-b
returns-in_err-b c =
    let next_byte = c.next_byte in
    let run = later_past c.args.key.now c.loop-b.c c.past_written.ensures in
    let loop = c.loop-b in
    let over = c.in_err-b.was in
    rw c.from_residual.ensures
    (record { goes = ends _ (rw (← loop.invariant.0, ← run.follows, ← next_byte.ensures.result_value, over)); is = loop.invariant.1 _ (run.leads _ (at_end (sym next_byte.ensures.is ∙ over))) })

-- what is passed stays in the part
passed_2 : (c : goal.Then-b-eq47) → Later c.args.key.now c.loop-b.c c.past_written.result
passed_2 c = later_past _ _ c.past_written.ensures

pub returns-then-b-eq47 : goal.returns-then-b-eq47
returns-then-b-eq47 c =
    let next_byte = c.next_byte in
    let run = passed_2 c in
    let loop = c.loop-b in
    record { goes = goes _ _ (rw (← loop.invariant.0, ← run.follows, ← next_byte.ensures.result_value, c.in_ok-b.was, c.if-b-eq47.true)); is = loop.invariant.1 _ (run.leads _ (at_slash (sym next_byte.ensures.is ∙ c.in_ok-b.was ∙ ap (λ n. Some (n, c.in_ok-b.on)) c.if-b-eq47.true))) }

-- what is passed stays in the part
passed_3 : (c : goal.Else-b-eq47) → Later c.args.key.now c.loop-b.c c.past_written.result
passed_3 c = later_past _ _ c.past_written.ensures

pub loop-b-smaller : goal.loop-b-smaller
loop-b-smaller c =
    let next_byte = c.next_byte in
    let run = passed_3 c in
    let a = c.args in
    omega (arith, ap length (byte_left a.key.now c.past_written.result next_byte.ensures.result_value c.in_ok-b.was), run.fewer)

pub loop-b-preserved : goal.loop-b-preserved
loop-b-preserved c =
    let next_byte = c.next_byte in
    let run = passed_3 c in
    let loop = c.loop-b in
    let a = c.args in
    let slash = c.if-b-eq47.false in (
      rw (← loop.invariant.0, ← run.follows, ← next_byte.ensures.result_value, c.in_ok-b.was) (sym (tail_on _ (rest a.key.now c.in_ok-b.on) slash)),
      λ r x. loop.invariant.1 r (run.leads r (past (sym next_byte.ensures.is ∙ c.in_ok-b.was) slash x)),
    )
