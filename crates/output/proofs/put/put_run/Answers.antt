-- `output::put::put_run` meets its contract: there is nothing to write, or no place for it, or the run is stored and counted. Assumes nothing.
use native.Mathlib.Omega.{arith}
use Rattle.laws.specs.Lists.{part_of}
use Rattle.laws.proofs.Parts.{part_out}
use Rattle.output.proofs.Bytes.{wrote_none, part_done}
use Rattle.output.proofs.Runs.{run_past, run_wrote}
use Rattle.output.proofs.put.put_run.Goals.{then-text-to-via-then-text-to, then-text-to-via-else-text-to+then-to-from}
use Rattle.output.proofs.put.put_run.Goals.{then-text-to-via-else-text-to+else-to-from+then-at-ge-FULL}
use Rattle.output.proofs.put.put_run.Goals as goal

pub returns-then-text-to : goal.returns-then-text-to
returns-then-text-to c =
    let a = c.args in
    elim c.then-text-to.branch [
      | then-text-to-via-then-text-to w ↦ rw (part_out a.text.now a.from a.to w.if-text-to.true) (wrote_none a.at (omega arith))
      | then-text-to-via-else-text-to+then-to-from w ↦
          rw (part_done a.text.now a.from a.to w.if-text-to.false w.if-to-from.true) (wrote_none a.at (omega arith))
      | then-text-to-via-else-text-to+else-to-from+then-at-ge-FULL w ↦
          run_past a.at (part_of a.text.now a.from a.to) (omega arith) w.if-at-ge-FULL.true
    ]

pub returns : goal.returns
returns c =
    let a = c.args in
    run_wrote a.text.now a.from a.to a.at (omega arith) (omega arith) (omega arith) c.store_run.ensures
