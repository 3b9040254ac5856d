-- The members of the PatchObject are listed and sorted; then a key is at fault, or it comes to what the sorted entries make of the card. Assumes nothing.
use Prim.Native.Nat.{◌+◌}
use mathlib.Core.Path.{◌≡◌}
use native.Mathlib.Omega.{arith}
use Rattle.json_reader.specs.Rows.{below_in}
use Rattle.json_reader.proofs.Seeking.{row_after_lem}
use Rattle.patch.proofs.Listing.Places.{sorted_alike}
use Rattle.patch.proofs.Drafting.Compose.{sorting, made_broken, made_sorted}
use borrow.Author.Rules.{rules}
use Rattle.std.proofs.lemmas.Result.{err_from_is_err_and}
use Rattle.patch.proofs.compose.compose_on.Goals as goal

-- where the rows inside the PatchObject end
ends : (c : goal.After-from_residual)
    → let a = c.args in
    c.next_row-end.result ≡ a.patch + 1 + below_in a.table.now a.patch
ends c =
    row_after_lem c.args.table.now c.args.patch c.next_row-end.ensures (omega (arith, c.requires.0))

pub returns-in_err-first_key : goal.returns-in_err-first_key
returns-in_err-first_key c room =
    let a = c.args in
    let p' = err_from_is_err_and c.from_residual.result c.from_residual.ensures.1 in
    rw (p'.1, p'.2)
    (made_broken a.card.now
    (sorting (ends c) c.collect-n.ensures (λ p h. omega (arith, room p h, c.collect-n.auto.rows)) c.common-shared.ensures
    c.sort.ensures.0)
    c.first_key.ensures _
    c.in_err-first_key.was)

-- where the rows inside the PatchObject end
ends_2 : (c : goal.After-slice_known-10-1)
    → let a = c.args in
    c.next_row-end.result ≡ a.patch + 1 + below_in a.table.now a.patch
ends_2 c =
    row_after_lem c.args.table.now c.args.patch c.next_row-end.ensures (omega (arith, c.requires.0))

pub returns : goal.returns
returns c room =
    let a = c.args in
    made_sorted a.card.now
    (sorting (ends_2 c) c.collect-n.ensures (λ p h. omega (arith, room p h, c.collect-n.auto.rows)) c.common-shared.ensures
    c.sort.ensures.0)
    c.first_key.ensures
    c.in_ok-first_key.was
    (sorted_alike a.text.now a.table.now c.collect-n.ensures.inside c.common-shared.ensures c.sort.ensures.0)
    c.put_sorted.ensures

-- the lists are as long as they were lent
pub put_sorted-requires : goal.put_sorted-requires
put_sorted-requires c = search rules
