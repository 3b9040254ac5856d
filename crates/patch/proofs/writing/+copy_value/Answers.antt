-- `patch::writing::copy_value` meets its contract: the bracket, then a walk along the values inside, each with what stands before it.
-- Assumes nothing.
use Prim.Native.Nat.{◌+◌, ◌*◌}
use mathlib.Core.Path.{refl, ◌∙◌}
use mathlib.Core.Bool.{true}
use mathlib.Core.List.{[], ◌∷◌}
use native.Mathlib.Omega.{arith}
use Rattle.text.specs.Limits.{row_words}
use Rattle.text.specs.Firsts.{inside_at}
use Rattle.patch.specs.Copied.{open_byte}
use Rattle.output.proofs.Bytes.{left_all, wrote_then}
use Rattle.json_reader.proofs.Seeking.{row_after_lem, row_inside}
use Rattle.patch.proofs.Putting.Walks.{value_row, walk_start}
use Rattle.patch.proofs.Putting.Copies.{inside_of, copied_scalar, copied_inside, copy_turn, copy_end}
use Rattle.patch.proofs.writing.+copy_value.Goals as goal

pub returns-then-k-lt-ARRAY : goal.returns-then-k-lt-ARRAY
returns-then-k-lt-ARRAY t c =
    λ g v.
    let row = value_row v in
    let k = c.kind-k.ensures ∙ row.kind in
    rw (copied_scalar c.args.text.now g v.some (omega (arith, k)))
    (rw (c.value_start-from.ensures ∙ row.start, c.value_end-to.ensures ∙ row.finish) at c.put_run.ensures)

-- the row is one of the table
pub overflow_add-m : goal.overflow_add-m
overflow_add-m t c =
    let a = c.args in
    let i = row_inside a.table.now a.row (omega (arith, c.kind-k.ensures, c.if-k-lt-ARRAY.false)) in
    omega arith

-- where the rows inside the value end; it is a row
pub loop-m-init : goal.loop-m-init
loop-m-init t c =
    let a = c.args in
    let i = row_inside a.table.now a.row (omega (arith, c.kind-k.ensures, c.if-k-lt-ARRAY.false)) in
    let e = row_after_lem a.table.now a.row c.next_row-end.ensures (omega arith) in
    let word = c.type_inv.table (a.row * row_words + 5) in
    (record { later = omega arith; near = omega arith; long = refl }, λ g v. walk_start true v e left_all)

pub copy_value-p-requires : goal.copy_value-p-requires
copy_value-p-requires t c =
    let a = c.args in
    let i = row_inside a.table.now a.row (omega (arith, c.kind-k.ensures, c.if-k-lt-ARRAY.false)) in
    let later = c.loop-m.invariant.0.later in
    (omega arith, tt)

-- the row of the next value
pub loop-m-smaller : goal.loop-m-smaller
loop-m-smaller t c =
    let near = c.loop-m.invariant.0.near in
    let e = row_after_lem c.args.table.now c.loop-m.m c.next_row-m.ensures (omega (arith, c.loop-m-test.true)) in
    omega (arith, c.loop-m-test.true)

pub loop-m-preserved : goal.loop-m-preserved
loop-m-preserved t c =
    let a = c.args in
    let inv = c.loop-m.invariant in
    let near = inv.0.near in
    let e = row_after_lem a.table.now c.loop-m.m c.next_row-m.ensures (omega (arith, c.loop-m-test.true)) in (
      record {
        later = omega (arith, inv.0.later);
        near = near;
        long = c.copy_value-p.auto.out ∙ c.put_head-p.auto.out ∙ inv.0.long;
      },
      λ g v.
          copy_turn a.text.now c.kind-k.result (inv.1 g v) c.loop-m-test.true c.put_head-p.ensures c.copy_value-p.ensures c.next_row-m.result e,
    )

pub shape_of-out : goal.shape_of-out
shape_of-out t c = c.put_byte.auto.out ∙ c.loop-m.invariant.0.long ∙ c.put_byte-p.auto.out

pub returns : goal.returns
returns t c =
    λ g v.
    let text = c.args.text.now in
    let k = c.kind-k.result in
    let opened = rw c.open_of.ensures at c.put_byte-p.ensures in
    let closed = rw c.close_of.ensures at c.put_byte.ensures in
    rw (copied_inside text g v.some v.kinds k (c.kind-k.ensures ∙ (value_row v).kind) c.if-k-lt-ARRAY.false)
    (wrote_then (open_byte k ∷ []) (inside_of text k (inside_at g) true) opened (copy_end text k (c.loop-m.invariant.1 g v) c.loop-m-test.false closed))
