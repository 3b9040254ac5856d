-- `patch::marks::advance` meets its contract: each of the run goes on by its own key, or all do by one. Assumes nothing.
use native.Mathlib.Omega.{arith}
use Rattle.patch.proofs.Listing.Steps.{filled_on}
use Rattle.patch.proofs.marks.advance.Goals as goal

pub returns : goal.returns
returns c =
    let fill = c.fill.ensures in
    record { all = λ alike. filled_on (c.shared_step-next.ensures (omega (arith, c.if-next-eq0.false)) alike) fill; around = fill.around }
