-- `json_reader::repeated::agree` meets its contract: a run, one byte longer with each turn (`agree_more`). Assumes nothing.
use Rattle.repeats.specs.Beginning.{AgreeRun}
use Rattle.json_reader.proofs.repeated.agree.Given as goal

abbrev pub invariant-loop-k : goal.invariant-loop-k
invariant-loop-k l = AgreeRun l.text l.a l.b l.most l.k
