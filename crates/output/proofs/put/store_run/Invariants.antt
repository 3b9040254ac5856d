-- `output::put::store_run` meets its contract: the first k bytes of what has room are copied. Assumes nothing.
use mathlib.Core.Path.{◌≡◌}
use lib.ListN.{take, drop}
use lib.Seq.{paste}
use Rattle.output.proofs.put.store_run.Given as goal

abbrev pub invariant-loop-k : goal.invariant-loop-k
invariant-loop-k l = l.out ≡ paste l.initial.out l.at (take l.n (drop l.from l.text)) l.k
