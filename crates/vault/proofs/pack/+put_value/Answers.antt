-- `vault::pack::put_value` meets its contract: a content behind the place of the head, and then the head. The content of a container is
-- a walk along the values inside, each with its name. It calls itself on rows further on, so the rows that are left of the table are the
-- measure. Assumes nothing.
use Rattle.std.proofs.Common.{◌+◌, ◌*◌, refl, ◌∙◌, arith}
use Rattle.laws.specs.Lists.{part_of}
use Rattle.text.specs.Limits.{row_words}
use Rattle.text.specs.Firsts.{kind_at, start_at, end_at, inside_at}
use Rattle.text.proofs.Promise.{first_row_lem}
use Rattle.json_reader.proofs.Seeking.{row_after_lem, row_inside}
use Rattle.packing.specs.Packed.{content_in}
use Rattle.vault.proofs.Laying.{laid_of, laid_field}
use Rattle.vault.proofs.Items.{items_from, packed_scalar, packed_inside, kind_small, fill_start, fill_turn, fill_end}
use Rattle.vault.proofs.pack.+put_value.Goals as goal

pub returns-then-k-lt-ARRAY : goal.returns-then-k-lt-ARRAY
returns-then-k-lt-ARRAY t c =
    λ g v.
    let text = c.args.text.now in
    let row = first_row_lem g v.some v.stands in
    let k = c.kind-k.ensures ∙ row.kind in
    let content = content_in (kind_at g) (part_of text (start_at g) (end_at g)) in
    let wrote = rw (k, c.value_start-from.ensures ∙ row.start, c.value_end-to.ensures ∙ row.finish) at c.put_content-stop.ensures in
    rw (packed_scalar text g v.some (omega (arith, k, c.if-k-lt-ARRAY.true)))
    (laid_field (kind_at g) (kind_small g v.some v.kinds) c.behind_head-start.ensures content (laid_of {bytes = content} wrote)
    (rw k at c.put_head.ensures))

-- the row is one of the table, and so is the end of those inside the value
pub loop-m-init : goal.loop-m-init
loop-m-init t c =
    let a = c.args in
    let inside = row_inside a.table.now a.row (omega (arith, c.kind-k.ensures, c.if-k-lt-ARRAY.false)) in
    let ends = row_after_lem a.table.now a.row c.next_row-end.ensures (omega arith) in
    let word = c.type_inv.table (a.row * row_words + 5) in
    (record { later = omega arith; near = omega arith; long = refl }, λ g v. fill_start a.text.now c.kind-k.result v ends)

pub loop-m-smaller : goal.loop-m-smaller
loop-m-smaller t c =
    let near = c.loop-m.invariant.0.near in
    let steps = row_after_lem c.args.table.now c.loop-m.m c.next_row-m.ensures (omega arith) in
    omega arith

pub loop-m-preserved : goal.loop-m-preserved
loop-m-preserved t c =
    let l = c.loop-m.invariant in
    let named = c.put_named-p in
    let value = c.put_value-p in
    let near = l.0.near in
    let steps = row_after_lem c.args.table.now c.loop-m.m c.next_row-m.ensures (omega arith) in (
      record { later = omega (arith, l.0.later); near = near; long = value.auto.out ∙ named.auto.out ∙ l.0.long },
      λ g v. fill_turn c.args.text.now c.kind-k.result (l.1 g v) c.loop-m-test.true named.ensures value.ensures c.next_row-m.result steps,
    )

pub returns : goal.returns
returns t c =
    λ g v.
    let text = c.args.text.now in
    let k = c.kind-k.result in
    let is = c.kind-k.ensures ∙ (first_row_lem g v.some v.stands).kind in
    let all = fill_end text k (c.loop-m.invariant.1 g v) c.loop-m-test.false in
    rw (packed_inside text g v.some v.kinds k is c.if-k-lt-ARRAY.false)
    (laid_field k (omega (arith, is, kind_small g v.some v.kinds)) c.behind_head-start.ensures (items_from text k (inside_at g)) all
    c.put_head-2.ensures)
