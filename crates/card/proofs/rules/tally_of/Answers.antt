-- `card::rules::tally_of` meets its contract: a walk along the entries. The measure is the rows left. Assumes nothing.
use mathlib.Core.Path.{◌≡◌, sym}
use Prim.Native.Nat.{◌+◌}
use native.Mathlib.Omega.{arith}
use Rattle.json_reader.specs.Rows.{below_in}
use Rattle.json_reader.proofs.Seeking.{row_after_lem}
use Rattle.card.specs.Marks.{no_marks}
use Rattle.card.specs.declared.rules.Marks.{Marks}
use Rattle.card.proofs.Judging.Along.{along_on, along_end}
use Rattle.card.proofs.Judging.Separators.{tally_in, tally_on, tally_end}
use Rattle.card.proofs.rules.tally_of.Goals as goal

-- where the walk goes on
steps : (c : goal.After-next_row-at)
    → let at = c.loop-at.at in
    c.next_row-at.result ≡ at + 1 + below_in c.args.on.now.table.now at
steps c = row_after_lem _ _ c.next_row-at.ensures (omega (arith, c.loop-at-test.true))

pub loop-at-smaller : goal.loop-at-smaller
loop-at-smaller c = omega (arith, steps c, c.loop-at-test.true)

pub loop-at-preserved : goal.loop-at-preserved
loop-at-preserved c =
    let a = c.args in
    let text = a.on.now.text.now in
    let loop = c.loop-at in
    let loop-test = c.loop-at-test in
    let is-separator = c.is_separator in
    along_on a.on.now.table.now a.from a.end (tally_in text no_marks) loop.at (tally_in text loop.m) loop.invariant loop-test.true
    (tally_in text c.marked-m.result) (λ ws v. tally_on text loop.m c.marked-m.result is-separator.result
    c.marked-m.ensures ws v (is-separator.ensures ws v)) c.next_row-at.result (steps c)

pub returns : goal.returns
returns c =
    let a = c.args in
    let text = a.on.now.text.now in
    along_end a.on.now.table.now a.from a.end (tally_in text no_marks) c.loop-at.at (tally_in text c.loop-at.m)
    c.loop-at.invariant c.loop-at-test.false (λ (r : Marks). c.loop-at.m ≡ r) (sym (tally_end text c.loop-at.m))
