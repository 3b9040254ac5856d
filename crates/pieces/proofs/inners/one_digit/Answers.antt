-- `pieces::inners::one_digit` meets its contract: none is left, or one fewer. Assumes nothing.
use native.Mathlib.Omega.{arith}
use mathlib.Core.Path.{◌∙◌}
use Rattle.pieces.proofs.Ways.{hex_last, hex_later}
use borrow.Author.Rules.{rules}
use Rattle.pieces.proofs.inners.one_digit.Goals as goal

pub unit-requires : goal.unit-requires
unit-requires c = search rules

pub returns-then-left-eq0 : goal.returns-then-left-eq0
returns-then-left-eq0 c =
    let a = c.args in
    c.unit.ensures ∙ hex_last a.from a.left a.u (omega arith)

pub overflow_sub-fewer : goal.overflow_sub-fewer
overflow_sub-fewer c = search rules

pub returns : goal.returns
returns c = let a = c.args in hex_later a.from a.left a.u (λ e. omega arith)
