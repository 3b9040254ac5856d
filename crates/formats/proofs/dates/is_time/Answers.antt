-- `formats::dates::is_time` meets its contract: nineteen bytes by their shape, and then the rest. The measure is the bytes to come of the nineteen.
-- Assumes nothing.
use mathlib.Core.Path.{refl, sym, ◌∙◌}
use Rattle.text.specs.Utf8.{conts}
use Rattle.json_reader.proofs.Unread.{byte_left, none_left}
use Rattle.formats.proofs.Laws.Times.{begun, begun_over, begun_other, begun_on, begun_done}
use Rattle.formats.proofs.dates.is_time.Goals as goal

pub loop-i-init : goal.loop-i-init
unfolding conts
loop-i-init c = rw c.start-at.ensures (begun _ _ refl)

pub returns-in_default : goal.returns-in_default
returns-in_default c =
    let a = c.args in
    let loop = c.loop-i in
    let loop-test = c.loop-i-test in
    sym (begun_over loop.invariant loop-test.true
    (none_left a.content.now loop.at c.next_byte.ensures.result_value c.in_default.is))

pub slice_bounds-in_range-end : goal.slice_bounds-in_range-end
slice_bounds-in_range-end c = sym c.loop-i.invariant.full

pub returns-then-in_range : goal.returns-then-in_range
returns-then-in_range c =
    c.time_ends.ensures ∙ sym (begun_done c.loop-i.invariant c.loop-i-test.false ∙ rw (← c.in_range.ensures, c.if-in_range.true))

pub returns-then-not-suits : goal.returns-then-not-suits
returns-then-not-suits c =
    let a = c.args in
    let loop = c.loop-i in
    let loop-test = c.loop-i-test in
    let next_byte = c.next_byte in
    sym (begun_other loop.invariant loop-test.true (byte_left a.content.now loop.at next_byte.ensures.result_value c.in-Some.is)
    (sym c.suits.ensures ∙ c.if-not-suits.true))

pub loop-i-preserved : goal.loop-i-preserved
loop-i-preserved c =
    let a = c.args in
    let loop = c.loop-i in
    let loop-test = c.loop-i-test in
    let next_byte = c.next_byte in
    begun_on loop.invariant loop-test.true (byte_left a.content.now loop.at next_byte.ensures.result_value c.in-Some.is)
    (sym c.suits.ensures ∙ c.if-not-suits.false)

pub returns-else-in_range : goal.returns-else-in_range
returns-else-in_range c =
    rw c.if-in_range.false (sym (begun_done c.loop-i.invariant c.loop-i-test.false ∙ rw (← c.in_range.ensures, c.if-in_range.false)))
