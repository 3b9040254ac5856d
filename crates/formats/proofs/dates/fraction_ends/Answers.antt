-- `formats::dates::fraction_ends` meets its contract: digit by digit. The measure is the number of bytes that the cursor has left. Assumes nothing.
use mathlib.Core.Path.{refl, sym, ap, ◌∙◌}
use native.Mathlib.Omega.{arith}
use lib.ListN.{length}
use Rattle.contact.specs.Dates.{fraction_ends}
use Rattle.json_reader.proofs.Unread.{byte_left, none_left}
use Rattle.formats.proofs.Laws.Counts.{ascii_digit}
use Rattle.formats.proofs.Laws.Times.{fraction_on}
use Rattle.formats.proofs.dates.fraction_ends.Goals as goal

pub loop-b-init : goal.loop-b-init
loop-b-init c = refl

pub returns : goal.returns
unfolding fraction_ends
returns c =
    let a = c.args in
    let loop = c.loop-b in
    rw (← loop.invariant, none_left a.content.now loop.at c.next_byte.ensures.result_value c.in_default.is)

pub returns-then-not-is_ascii_digit : goal.returns-then-not-is_ascii_digit
returns-then-not-is_ascii_digit c =
    let a = c.args in
    let loop = c.loop-b in
    let next_byte = c.next_byte in
    rw (← loop.invariant, byte_left a.content.now loop.at next_byte.ensures.result_value c.in-Some.is) c.closes.ensures

pub loop-b-smaller : goal.loop-b-smaller
loop-b-smaller c =
    let a = c.args in
    let loop = c.loop-b in
    let next_byte = c.next_byte in
    omega (arith, ap length (byte_left a.content.now loop.at next_byte.ensures.result_value c.in-Some.is))

pub loop-b-preserved : goal.loop-b-preserved
loop-b-preserved c =
    let a = c.args in
    let loop = c.loop-b in
    let next_byte = c.next_byte in
    rw (← loop.invariant, byte_left a.content.now loop.at next_byte.ensures.result_value c.in-Some.is)
    (sym (fraction_on loop.last c.in-Some.b _ (ascii_digit c.in-Some.b c.is_ascii_digit.ensures.value ∙ c.if-not-is_ascii_digit.false)))
