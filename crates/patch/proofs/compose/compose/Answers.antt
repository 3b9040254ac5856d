-- `patch::compose::compose` meets its contract: the lists have room for as many entries as were counted. Assumes nothing.
use native.Mathlib.Omega.{arith}
use Rattle.json_reader.proofs.Seeking.{row_after_lem}
use Rattle.patch.proofs.Drafting.Children.{counted_few, most_few}
use Rattle.patch.proofs.compose.compose.Goals as goal

pub returns-in-0-to-64 : goal.returns-in-0-to-64
returns-in-0-to-64 c =
    c.compose_in.ensures
    (counted_few (row_after_lem c.args.table.now c.args.patch c.next_row.ensures (omega arith)) c.count.ensures (omega arith))

pub returns-in-0-to-640 : goal.returns-in-0-to-640
returns-in-0-to-640 c =
    c.compose_in-in-0-to-640.ensures
    (counted_few (row_after_lem c.args.table.now c.args.patch c.next_row.ensures (omega arith)) c.count.ensures (omega arith))

pub returns-in-0-to-4096 : goal.returns-in-0-to-4096
returns-in-0-to-4096 c =
    c.compose_in-in-0-to-4096.ensures
    (counted_few (row_after_lem c.args.table.now c.args.patch c.next_row.ensures (omega arith)) c.count.ensures (omega arith))

pub returns-in_default : goal.returns-in_default
returns-in_default c = c.compose_in-in_default.ensures most_few
