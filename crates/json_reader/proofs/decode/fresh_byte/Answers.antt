-- `json_reader::decode::fresh_byte` meets its contract: one step of the walk `decode_from` (`decode_step`); the tests and what the callees ensure say
-- which piece stands at the place. Assumes nothing.
use Rattle.std.specs.Prelude.{Some, Ok}
use mathlib.Core.Path.{◌≡◌, sym, ◌∙◌, ap}
use Prim.Native.Nat.{◌<◌}
use native.Mathlib.Omega.{arith}
use lib.ListN.{length}
use Rattle.text.specs.Strings.{piece_by}
use Rattle.text.specs.Utf8.{conts}
use Rattle.text.specs.Chars.{escape_at}
use Rattle.json_reader.specs.Cursors.{fresh_of}
use Rattle.laws.proofs.Picks.{picks}
use Rattle.laws.proofs.Places.{inside}
use Rattle.text.proofs.Walks.{decode_step, escape_char}
use Rattle.json_reader.proofs.decode.fresh_byte.Goals as goal

pub returns-then-b-eq-OVER : goal.returns-then-b-eq-OVER
unfolding piece_by fresh_of
returns-then-b-eq-OVER c =
    record {
      result_value = rw (decode_step c.args.name.now c.args.at, ← c.peek-b.ensures.value) (search picks);
      is = rw (← c.peek-b.ensures.value) (search picks);
    }

pub returns-then-b-ne-BACKSLASH : goal.returns-then-b-ne-BACKSLASH
unfolding piece_by fresh_of conts
returns-then-b-ne-BACKSLASH c =
    record {
      result_value = rw (decode_step c.args.name.now c.args.at, ← c.peek-b.ensures.value) (search picks);
      is = rw (← c.peek-b.ensures.value) (search picks);
    }

pub overflow_add-at : goal.overflow_add-at
overflow_add-at c =
    let s : escape_at c.args.name.now c.args.at ≡ (Ok (Some (c.in-Ok-Some.code, c.in-Ok-Some.len))) = sym c.escape.ensures ∙ (c.in-Ok-Some.is ∙ ap Ok c.in-Ok-Some.field-0-is) in
    let n = escape_char c.args.name.now c.args.at s in
    let i : c.args.at < length c.args.name.now = inside c.args.name.now c.args.at (omega arith) in
    omega arith

pub returns-in-Ok-Some : goal.returns-in-Ok-Some
unfolding piece_by fresh_of
returns-in-Ok-Some c =
    record {
      result_value =
          rw (
            decode_step c.args.name.now c.args.at,
            ← c.peek-b.ensures.value,
            ← c.escape.ensures,
            (c.in-Ok-Some.is ∙ ap Ok c.in-Ok-Some.field-0-is),
          )
          (search (picks, c.first_byte.ensures.by_index c.args.name.now));
      is = rw (← c.peek-b.ensures.value, ← c.escape.ensures, (c.in-Ok-Some.is ∙ ap Ok c.in-Ok-Some.field-0-is)) (search (picks, c.first_byte.ensures.is));
    }

pub returns-in-Ok-None : goal.returns-in-Ok-None
unfolding piece_by fresh_of
returns-in-Ok-None c =
    record {
      result_value =
          rw (
            decode_step c.args.name.now c.args.at,
            ← c.peek-b.ensures.value,
            ← c.escape.ensures,
            (c.in-Ok-None.is ∙ ap Ok c.in-Ok-None.field-0-is),
          )
          (search picks);
      is = rw (← c.peek-b.ensures.value, ← c.escape.ensures, (c.in-Ok-None.is ∙ ap Ok c.in-Ok-None.field-0-is)) (search picks);
    }

pub returns-in-Err : goal.returns-in-Err
unfolding piece_by fresh_of
returns-in-Err c =
    record {
      result_value =
          rw (
            decode_step c.args.name.now c.args.at,
            ← c.peek-b.ensures.value,
            ← c.escape.ensures,
            c.in-Err.is,
          )
          (search picks);
      is = rw (← c.peek-b.ensures.value, ← c.escape.ensures, c.in-Err.is) (search picks);
    }
