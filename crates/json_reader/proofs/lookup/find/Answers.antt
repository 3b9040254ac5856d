-- `json_reader::lookup::find` meets its contract: a walk along the members. The measure is the rows left. Assumes nothing.
use mathlib.Core.Path.{sym, ◌∙◌}
use native.Mathlib.Omega.{arith}
use Rattle.json_reader.proofs.Seeking.{row_after_lem, seeks, seek_hit, seek_next, seek_none}
use Rattle.json_reader.proofs.lookup.find.Goals as goal

pub loop-at-init : goal.loop-at-init
loop-at-init c = seeks _ _ _ _ _

pub returns-then-is_named : goal.returns-then-is_named
returns-then-is_named c =
    λ f h.
    seek_hit _ _ _ _ _ _ c.loop-at.invariant f h c.loop-at-test.true
    (sym c.is_named.ensures ∙ c.if-is_named.true)

pub loop-at-smaller : goal.loop-at-smaller
loop-at-smaller c = omega (arith, row_after_lem _ _ c.next_row-at.ensures (omega arith), c.loop-at-test.true)

pub loop-at-preserved : goal.loop-at-preserved
loop-at-preserved c =
    λ f h.
    let loop = c.loop-at in
    let loop-test = c.loop-at-test in
    rw (row_after_lem _ _ c.next_row-at.ensures (omega arith)) (seek_next _ _ _ _ _ _ loop.invariant f h loop-test.true
    (sym c.is_named.ensures ∙ c.if-is_named.false))

pub returns : goal.returns
returns c = λ f h. seek_none _ _ _ _ _ _ c.loop-at.invariant f h c.loop-at-test.false
