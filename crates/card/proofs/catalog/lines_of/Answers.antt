-- `card::catalog::lines_of` meets its contract: its properties stand together. Assumes nothing.
use mathlib.Core.Path.{refl}
use native.Mathlib.Omega.{arith}
use Rattle.card.specs.Catalog.{line_starts, lines, no_line}
use Rattle.card.proofs.Known.OwnParts.{span_part}
use Rattle.card.proofs.catalog.lines_of.Goals as goal

pub returns : goal.returns
unfolding lines
returns c =
    let a = c.args in
    rw c.span_at.ensures (span_part (λ r. r.known) refl no_line a.numbers.now line_starts c.requires.line_start_is a.o)

pub span_at-requires : goal.span_at-requires
span_at-requires c = omega (arith, c.requires.long)
