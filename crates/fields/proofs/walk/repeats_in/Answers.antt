-- `fields::walk::repeats_in` meets its contract: the search goes through the places that were listed. Assumes nothing.
use mathlib.Core.Path.{◌≡◌, ap, ◌∙◌}
use mathlib.Core.List.{List}
use Prim.Native.Nat.{ℕ, ◌+◌, ◌-◌}
use native.Mathlib.Omega.{arith}
use lib.ListN.{take}
use lib.Seq.{length-take-le}
use Rattle.laws.specs.Earliest.{first_repeat}
use Rattle.fields.specs.Survey.{name_at, is_found, member_places}
use Rattle.fields.proofs.Members.{places_climb}
use Rattle.fields.proofs.walk.repeats_in.Goals as goal

pub list_names-n-requires : goal.list_names-n-requires
list_names-n-requires c =
    let p = c.requires in
    record { short = p.roomy.short; fits = p.roomy.store_fits; head = omega arith; inside = p.inside }

-- what is lent to the search is the places
lent : (c : goal.After-repeat_among-arg-2-1)
    → let a = c.args in
    take (c.list_names-n.result - 0) c.list_names-n.new.store ≡ member_places a.packed.now (a.at + 3) a.next
lent c = let e : c.list_names-n.result - 0 ≡ c.list_names-n.result = omega arith in rw e c.list_names-n.ensures.are

pub repeat_among-requires : goal.repeat_among-requires
repeat_among-requires c =
    let a = c.args in
    let n = c.list_names-n.ensures in
    let e : c.list_names-n.result - 0 ≡ c.list_names-n.result = omega arith in
    record {
      climbs = rw (lent c) (places_climb a.packed.now a.next (a.at + 3));
      fits = rw e (omega (arith, length-take-le c.list_names-n.result c.list_names-n.new.store n.inside, n.few, c.requires.inside, c.requires.roomy.scratch_fits));
    }

-- what is lent to the search is the places
lent_2 : (c : goal.After-slice_known-5-1)
    → let a = c.args in
    take (c.list_names-n.result - 0) c.list_names-n.new.store ≡ member_places a.packed.now (a.at + 3) a.next
lent_2 c = let e : c.list_names-n.result - 0 ≡ c.list_names-n.result = omega arith in rw e c.list_names-n.ensures.are

pub returns : goal.returns
returns c =
    let a = c.args in
    c.repeat_among.ensures ∙ ap (λ (l : List ℕ). is_found (first_repeat (name_at a.packed.now) l)) (lent_2 c)

pub overflow_add-at : goal.overflow_add-at
overflow_add-at c = let p = c.requires in omega (arith, p.ends, p.inside, p.roomy.short)

pub slice_bounds-repeat_among-end : goal.slice_bounds-repeat_among-end
slice_bounds-repeat_among-end c = c.list_names-n.ensures.inside
