-- `pieces::inners::one_tail` meets its contract: none is left, or one fewer. Assumes nothing.
use native.Mathlib.Omega.{arith}
use mathlib.Core.Path.{◌∙◌}
use Rattle.pieces.proofs.Ways.{tail_last, tail_later}
use borrow.Author.Rules.{rules}
use Rattle.pieces.proofs.inners.one_tail.Goals as goal

pub check-requires : goal.check-requires
check-requires c = search rules

pub returns-then-left-eq0 : goal.returns-then-left-eq0
returns-then-left-eq0 c =
    let a = c.args in
    c.check.ensures ∙ tail_last a.from a.left a.c (omega arith)

pub overflow_sub-fewer : goal.overflow_sub-fewer
overflow_sub-fewer c = search rules

pub returns : goal.returns
returns c = let a = c.args in tail_later a.from a.left a.c (λ e. omega arith)
