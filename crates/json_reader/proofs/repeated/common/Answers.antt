-- `json_reader::repeated::common` meets its contract: what all names so far begin with. Assumes nothing.
use mathlib.Core.Path.{◌≡◌}
use native.Mathlib.Omega.{arith}
use lib.ListN.{length}
use Rattle.repeats.proofs.Beginning.{begin_none, begin_more}
use Rattle.json_reader.proofs.repeated.common.Goals as goal

pub loop-place-init : goal.loop-place-init
loop-place-init c = (omega arith, begin_none c.args.text.now c.args.places.now 0 c.plain_run-k.result c.plain_run-k.ensures)

pub agree-k-requires : goal.agree-k-requires
agree-k-requires c =
    let inside = c.loop-place.invariant.1.plain.inside in
    let first = c.type_inv.places 0 in
    let this = c.type_inv.places c.loop-place.place-index in
    (omega arith, omega arith, omega arith)

pub loop-place-preserved : goal.loop-place-preserved
loop-place-preserved c = (omega arith, begin_more c.loop-place.invariant.1 c.agree-k.ensures)

pub returns : goal.returns
returns c =
    let e : c.loop-place.place-index ≡ length c.args.places.now = omega arith in
    rw e at c.loop-place.invariant.1
