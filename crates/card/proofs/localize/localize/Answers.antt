-- Behind what is used the output is cleared. Assumes nothing.
use native.Mathlib.Omega.{arith}
use Rattle.card.proofs.Localizing.{used_fits, localizes}
use Rattle.card.proofs.localize.localize.Goals as goal

pub slice_bounds-fill-count : goal.slice_bounds-fill-count
slice_bounds-fill-count c = used_fits c.localize_in-a.ensures c.bytes_used-used.ensures

pub slice_bounds-fill-start : goal.slice_bounds-fill-start
slice_bounds-fill-start c = used_fits c.localize_in-a.ensures c.bytes_used-used.ensures

pub returns : goal.returns
returns c =
    let localize-in = c.localize_in-a in
    localizes localize-in.ensures (omega arith) c.bytes_used-used.ensures (c.fill.ensures.after (λ y e. e))
