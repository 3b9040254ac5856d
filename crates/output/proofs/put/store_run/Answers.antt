-- `output::put::store_run` meets its contract: the first k bytes of what has room are copied. Assumes nothing.
use mathlib.Core.Path.{◌≡◌, sym, ◌∙◌}
use native.Mathlib.Omega.{arith}
use lib.ListN.{take, drop}
use Rattle.std.proofs.lemmas.List.Edits.{paste_none}
use Rattle.laws.specs.Lists.{part_of}
use Rattle.laws.proofs.Sets.{sets_out}
use Rattle.output.proofs.Runs.{run_stored, run_more}
use Rattle.output.proofs.put.store_run.Goals as goal

pub returns-then-out-at : goal.returns-then-out-at
returns-then-out-at c = let a = c.args in sym (sets_out (part_of a.text.now a.from a.to) a.out.now a.at c.if-out-at.true)

pub loop-k-init : goal.loop-k-init
loop-k-init c = let a = c.args in paste_none a.out.now a.at (take c.min-n.result (drop a.from a.text.now))

pub loop-k-preserved : goal.loop-k-preserved
loop-k-preserved c =
    let a = c.args in
    rw c.loop-k.invariant
    (run_more a.text.now a.out.now a.from a.at c.min-n.result c.loop-k.k (omega arith) (omega (arith, c.min-n.ensures)) (omega (arith, c.min-n.ensures)))

pub returns : goal.returns
returns c =
    let a = c.args in
    let end : c.loop-k.k ≡ c.min-n.result = omega arith in
    rw end at c.loop-k.invariant
    ∙ run_stored a.text.now a.from a.to c.min-n.result a.out.now a.at c.requires.0 c.requires.1 (omega (arith, c.min-n.ensures))
    (omega (arith, c.min-n.ensures)) (λ h. omega (arith, c.min-n.ensures)) (omega (arith, c.if-out-at.false))
