-- `formats::ids::is_id` meets its contract: byte by byte, after so many that passed. The measure is the number of bytes that the cursor has left.
-- Assumes nothing.
use mathlib.Core.Path.{sym, ap, ◌∙◌}
use native.Mathlib.Omega.{arith}
use lib.ListN.{length}
use Rattle.text.specs.Utf8.{conts}
use Rattle.json_reader.proofs.Unread.{byte_left, none_left}
use Rattle.formats.proofs.Laws.Ids.{id_start, id_end, id_on, id_other, id_long}
use Rattle.formats.proofs.ids.is_id.Goals as goal

pub loop-b-init : goal.loop-b-init
unfolding conts
loop-b-init c = (rw c.start-at.ensures (sym (id_start _)), omega arith)

pub returns : goal.returns
returns c =
    let a = c.args in
    let loop = c.loop-b in
    rw (← loop.invariant.0, none_left a.name.now loop.at c.next_byte.ensures.result_value c.in_default.is)
    (sym (id_end loop.passed loop.invariant.1))

pub returns-then-passed-eq-LONGEST : goal.returns-then-passed-eq-LONGEST
returns-then-passed-eq-LONGEST c =
    let a = c.args in
    let loop = c.loop-b in
    let next_byte = c.next_byte in
    rw (← loop.invariant.0, byte_left a.name.now loop.at next_byte.ensures.result_value c.in-Some.is)
    (sym (id_long loop.passed c.in-Some.b _ c.if-passed-eq-LONGEST.true))

pub loop-b-smaller : goal.loop-b-smaller
loop-b-smaller c =
    let a = c.args in
    let loop = c.loop-b in
    let next_byte = c.next_byte in
    omega (arith, ap length (byte_left a.name.now loop.at next_byte.ensures.result_value c.in-Some.is))

pub returns-then-not-id_byte : goal.returns-then-not-id_byte
returns-then-not-id_byte c =
    let a = c.args in
    let loop = c.loop-b in
    let next_byte = c.next_byte in
    rw (← loop.invariant.0, byte_left a.name.now loop.at next_byte.ensures.result_value c.in-Some.is)
    (sym (id_other loop.passed c.in-Some.b _ (sym c.id_byte.ensures ∙ c.if-not-id_byte.true)))

pub loop-b-preserved : goal.loop-b-preserved
loop-b-preserved c =
    let a = c.args in
    let loop = c.loop-b in
    let next_byte = c.next_byte in
    let fits = sym c.id_byte.ensures ∙ c.if-not-id_byte.false in (
      rw (← loop.invariant.0, byte_left a.name.now loop.at next_byte.ensures.result_value c.in-Some.is)
          (sym (id_on loop.passed c.in-Some.b _ fits)),
      omega (arith, c.if-passed-eq-LONGEST.false),
    )
