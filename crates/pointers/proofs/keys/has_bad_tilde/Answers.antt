-- `pointers::keys::has_bad_tilde` meets its contract: each turn passes bytes without a `~` and reads one more. Assumes nothing.
use borrow.Author.Tests.{ne_eqb}
use mathlib.Core.Path.{refl, ap}
use native.Mathlib.Omega.{arith}
use lib.ListN.{length}
use Rattle.json_reader.proofs.Unread.{byte_left}
use Rattle.text.specs.Utf8.{conts}
use Rattle.pointers.proofs.Laws.Glyphs.{AsTilded, as_tilded_past}
use Rattle.pointers.proofs.keys.has_bad_tilde.Goals as goal
use Rattle.pointers.proofs.keys.has_bad_tilde.Goals.{else-b-eq126-via-then-b-eq126+else-not-zero_or_one, else-b-eq126-via-else-b-eq126}

pub loop-b-init : goal.loop-b-init
unfolding conts
loop-b-init c = rw c.start-c.ensures refl

-- no bad `~` stands in what is passed
passed : (c : goal.In_default) → AsTilded c.args.key.now c.loop-b.c c.past_written.result
passed c = as_tilded_past _ _ c.past_written.ensures

pub returns-in_default : goal.returns-in_default
returns-in_default c =
    rw (← c.loop-b.invariant, ← (passed c).follows, ← c.next_byte.ensures.result_value, c.in_default.is)

-- no bad `~` stands in what is passed
passed_2 : (c : goal.Then-not-zero_or_one) → AsTilded c.args.key.now c.loop-b.c c.past_written.result
passed_2 c = as_tilded_past _ _ c.past_written.ensures

pub returns-then-not-zero_or_one : goal.returns-then-not-zero_or_one
returns-then-not-zero_or_one c =
    rw (← c.loop-b.invariant, ← (passed_2 c).follows, ← c.next_byte.ensures.result_value, c.in-Some.is, c.if-b-eq126.true, ← c.zero_or_one.ensures, c.if-not-zero_or_one.true)

pub loop-b-smaller : goal.loop-b-smaller
loop-b-smaller c =
    omega (
      arith,
      ap length (byte_left c.args.key.now c.past_written.result c.next_byte.ensures.result_value c.in-Some.is),
      (as_tilded_past c.args.key.now c.loop-b.c c.past_written.ensures).fewer,
    )

pub loop-b-preserved : goal.loop-b-preserved
loop-b-preserved c =
    rw (← c.loop-b.invariant, ← (as_tilded_past c.args.key.now c.loop-b.c c.past_written.ensures).follows, ← c.next_byte.ensures.result_value, c.in-Some.is)
    (elim c.else-b-eq126.branch [
      | else-b-eq126-via-then-b-eq126+else-not-zero_or_one w ↦ rw (w.if-b-eq126.true, ← w.zero_or_one.ensures, w.if-not-zero_or_one.false) refl
      | else-b-eq126-via-else-b-eq126 w ↦ rw (ne_eqb _ 126 w.if-b-eq126.false) refl
    ])
