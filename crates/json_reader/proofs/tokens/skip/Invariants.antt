-- `json_reader::tokens::skip` meets its contract: its loop is that over a run, here of white space. Assumes nothing.
use Prim.Native.Nat.{◌-◌}
use lib.ListN.{length}
use Rattle.text.specs.Tokens.{is_space}
use Rattle.json_reader.proofs.Runs.{Along}
use Rattle.json_reader.proofs.tokens.skip.Given as goal

abbrev pub invariant-loop-at : goal.invariant-loop-at
invariant-loop-at l = Along is_space l.text l.from l.at

abbrev pub decreases-loop-at : goal.decreases-loop-at
decreases-loop-at l = length l.text - l.at
