-- `pointers::keys::key_order` meets its contract: the first byte that differs decides, if it can (`by_first`). Assumes nothing.
use mathlib.Core.Path.{sym, ◌∙◌}
use Rattle.laws.specs.Scan.{scan}
use Rattle.text.specs.Strings.{piece_by, decode_from}
use Rattle.text.specs.Utf8.{conts}
use Rattle.pointers.proofs.Laws.Beginnings.{by_first}
use Rattle.pointers.proofs.keys.key_order.Goals as goal

pub returns : goal.returns
unfolding conts decode_from scan piece_by
returns c = c.parts_order.ensures ∙ c.alike_keys-k.ensures.order

pub alike_keys-k-requires : goal.alike_keys-k-requires
alike_keys-k-requires c = tt

pub peek-x-requires : goal.peek-x-requires
peek-x-requires c = tt

pub peek-y-requires : goal.peek-y-requires
peek-y-requires c = tt

pub tells-requires : goal.tells-requires
tells-requires c = tt

pub rank-requires : goal.rank-requires
rank-requires c = tt

pub rank-requires-then-tells : goal.rank-requires-then-tells
rank-requires-then-tells c = tt

pub order_at-requires : goal.order_at-requires
order_at-requires c = tt

pub parts_order-requires : goal.parts_order-requires
parts_order-requires c = tt

pub returns-then-tells : goal.returns-then-tells
unfolding conts decode_from scan piece_by
returns-then-tells c =
    let a = c.args in
    rw (c.rank.ensures, c.rank-then-tells.ensures) at c.order_at.ensures
    ∙ (by_first a.a.now a.b.now c.alike_keys-k.result (c.peek-x.ensures.value, c.peek-x.ensures.small)
    (c.peek-y.ensures.value, c.peek-y.ensures.small) (sym c.tells.ensures ∙ c.if-tells.true)).0
    ∙ c.alike_keys-k.ensures.order
