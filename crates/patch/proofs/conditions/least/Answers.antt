-- The loop's invariant: the best of the entries from `i` on. Assumes nothing.
use Prim.Native.Nat.{◌-◌}
use mathlib.Core.Path.{sym, ◌∙◌}
use native.Mathlib.Omega.{arith}
use Rattle.patch.proofs.Listing.Conditions.{least_none, least_more, least_on, least_all}
use Rattle.patch.proofs.conditions.least.Goals as goal

pub loop-i-init : goal.loop-i-init
loop-i-init c =
    let a = c.args in
    (omega arith, least_none a.fault a.text.now a.table.now a.rows.now a.n a.walks.now a.n (a.n - a.n) (omega arith))

pub overflow_cast-row : goal.overflow_cast-row
overflow_cast-row c = omega (arith, c.type_inv.rows (c.loop-i.i - 1))

pub loop-i-preserved-then-at_fault : goal.loop-i-preserved-then-at_fault
loop-i-preserved-then-at_fault c =
    let loop = c.loop-i in
    let a = c.args in (
      omega arith,
      c.smaller_key-best.ensures
          ∙ least_more a.fault a.text.now a.table.now a.rows.now a.n a.walks.now loop.i (omega arith) loop.invariant.0 loop.invariant.1
          (sym c.at_fault.ensures ∙ c.if-at_fault.true),
    )

pub loop-i-preserved : goal.loop-i-preserved
loop-i-preserved c =
    let loop = c.loop-i in
    let a = c.args in (
      omega arith,
      least_on a.fault a.text.now a.table.now a.rows.now a.n a.walks.now loop.i (omega arith) loop.invariant.0 loop.invariant.1
          (sym c.at_fault.ensures ∙ c.if-at_fault.false),
    )

pub returns : goal.returns
returns c =
    let loop = c.loop-i in
    let a = c.args in
    loop.invariant.1 ∙ least_all a.fault a.text.now a.table.now a.rows.now a.n a.walks.now loop.i (omega arith)
