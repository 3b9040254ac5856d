-- `vault::cuts::cut_at` meets its contract: its tests are those of `cut_at`. Assumes nothing.
use native.Mathlib.Omega.{arith}
use borrow.Author.Rules.{rules}
use Rattle.vault.proofs.Fields.{cut_few, cut_over, cut_field}
use Rattle.vault.proofs.cuts.cut_at.Goals as goal

pub returns-then-end-at-lt-HEAD : goal.returns-then-end-at-lt-HEAD
returns-then-end-at-lt-HEAD c = let a = c.args in cut_few a.packed.now a.at a.end (search rules) (search rules) (omega arith)

pub returns-then-end-from : goal.returns-then-end-from
returns-then-end-from c =
    let a = c.args in cut_over a.packed.now a.at a.end (search rules) (search rules) (omega arith) (omega (arith, c.if-end-from.true))

pub returns : goal.returns
returns c = let a = c.args in cut_field a.packed.now a.at a.end (search rules) (search rules) (omega arith) (omega (arith, c.if-end-from.false))
