-- `fields::walk::list_names` meets its contract: the places so far, and then those that are left. Assumes nothing.
use mathlib.Core.Path.{ap, ◌∙◌}
use Prim.Native.Nat.{◌<◌}
use native.Mathlib.Omega.{arith}
use lib.ListN.{length}
use Rattle.fields.specs.Survey.{next_at}
use Rattle.fields.proofs.Members.{listing_start, listing_room, listing_more, listing_end}
use Rattle.fields.proofs.walk.list_names.Goals as goal

pub loop-at-init : goal.loop-at-init
loop-at-init c = let a = c.args in listing_start a.packed.now a.from a.end a.store.now c.requires.head

pub loop-at-preserved : goal.loop-at-preserved
loop-at-preserved c =
    let a = c.args in
    let l = c.loop-at in
    listing_more a.packed.now a.from a.end c.requires l.invariant c.next_at-at.result (c.next_at-at.ensures.value ∙ ap (next_at a.packed.now) c.next_at-value.ensures.value)
    c.loop-at-test.true

pub returns : goal.returns
returns c =
    let a = c.args in
    listing_end a.packed.now a.from a.end c.requires c.loop-at.invariant c.loop-at-test.false

-- inside the loop a place is short of the end, and there is room for it
short : (c : goal.In-loop-at) → c.loop-at.at < 65538
short c = let p = c.requires in omega (arith, c.loop-at-test.true, p.inside, p.short)

pub overflow_cast-store : goal.overflow_cast-store
overflow_cast-store c = omega (arith, short c)

room : (c : goal.In-loop-at) → (c.loop-at.n < length c.loop-at.store) × (c.loop-at.n < 65538)
room c =
    let a = c.args in
    let l = c.loop-at in
    (listing_room a.packed.now a.from a.end c.requires l.invariant c.loop-at-test.true, omega (arith, short c, l.invariant.spread))

pub offset_bounds-store-n : goal.offset_bounds-store-n
offset_bounds-store-n c = omega (arith, (room c).1)

pub bounds-store-n : goal.bounds-store-n
bounds-store-n c = (room c).0

pub overflow_add-n : goal.overflow_add-n
overflow_add-n c = omega (arith, (room c).1)

pub next_at-value-requires : goal.next_at-value-requires
next_at-value-requires c = omega (arith, short c)

-- inside the loop a place is short of the end, and there is room for it
short_2 : (c : goal.After-next_at-value) → c.loop-at.at < 65538
short_2 c = let p = c.requires in omega (arith, c.loop-at-test.true, p.inside, p.short)

pub next_at-at-requires : goal.next_at-at-requires
next_at-at-requires c = omega (arith, short_2 c, c.next_at-value.ensures)

-- inside the loop a place is short of the end, and there is room for it
short_3 : (c : goal.After-next_at-at) → c.loop-at.at < 65538
short_3 c = let p = c.requires in omega (arith, c.loop-at-test.true, p.inside, p.short)

pub loop-at-smaller : goal.loop-at-smaller
loop-at-smaller c = omega (arith, short_3 c, c.next_at-at.ensures, c.next_at-value.ensures)

pub shape_of-store : goal.shape_of-store
shape_of-store c = c.loop-at.invariant.long
