-- By the verdict on what was written. Assumes nothing.
use mathlib.Core.Path.{sym}
use lib.Seq.{length-take-le}
use Rattle.card.proofs.Localizing.{judged_by}
use Rattle.card.proofs.localize.judge_written.Goals as goal

pub slice_bounds-judge_loose-end : goal.slice_bounds-judge_loose-end
slice_bounds-judge_loose-end c =
    sym (length-take-le c.args.n c.args.out.now c.requires)

pub returns : goal.returns
returns c =
    λ room.
    let a = c.args in
    let judge = c.judge_loose in
    rw c.by_verdict.ensures (judged_by room judge.result judge.ensures (length-take-le a.n a.out.now c.requires))
