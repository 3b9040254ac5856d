-- `card::catalog::span_at` meets its contract. Assumes nothing.
use Prim.Native.Nat.{◌+◌, ◌≤◌}
use native.Mathlib.Omega.{arith}
use Rattle.card.specs.Catalog.{type_count}
use Rattle.card.proofs.Known.OwnParts.{place_within}
use Rattle.card.proofs.catalog.span_at.Goals as goal

near : (c : goal.After-name_place) → c.name_place.result ≤ type_count
near c = rw c.name_place.ensures (place_within c.args.o)

pub overflow_add-at : goal.overflow_add-at
overflow_add-at c = omega (arith, near c, c.requires)

pub offset_bounds-numbers-at : goal.offset_bounds-numbers-at
offset_bounds-numbers-at c = omega (arith, near c, c.requires)

near_2 : (c : goal.After-shared_slice_known-2-1-unread) → c.name_place.result ≤ type_count
near_2 c = rw c.name_place.ensures (place_within c.args.o)

pub bounds-numbers-at : goal.bounds-numbers-at
bounds-numbers-at c = omega (arith, near_2 c, c.requires)

pub overflow_cast-first : goal.overflow_cast-first
overflow_cast-first c = omega (arith, c.type_inv.numbers (c.args.starts + c.name_place.result))

near_3 : (c : goal.After-shared_slice_known-2-1) → c.name_place.result ≤ type_count
near_3 c = rw c.name_place.ensures (place_within c.args.o)

pub overflow_add-last : goal.overflow_add-last
overflow_add-last c = omega (arith, near_3 c, c.requires)

pub offset_bounds-numbers-at-2 : goal.offset_bounds-numbers-at-2
offset_bounds-numbers-at-2 c = omega (arith, near_3 c, c.requires)

near_4 : (c : goal.After-shared_slice_known-3-1-unread) → c.name_place.result ≤ type_count
near_4 c = rw c.name_place.ensures (place_within c.args.o)

pub bounds-numbers-at-2 : goal.bounds-numbers-at-2
bounds-numbers-at-2 c = omega (arith, near_4 c, c.requires)

pub overflow_cast-last : goal.overflow_cast-last
overflow_cast-last c = omega (arith, c.type_inv.numbers (c.args.starts + c.name_place.result + 1))

pub returns : goal.returns
returns c = rw c.name_place.ensures
