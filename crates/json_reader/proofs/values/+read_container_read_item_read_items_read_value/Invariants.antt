-- The measures of the readers that call each other: four times the containers that may be opened, and up to three more, so that each
-- call of another of them brings it down. And what holds at the head of the loop that reads a container's items. Assumes nothing.
use Rattle.std.proofs.Common.{◌+◌, ◌-◌, ◌*◌, length}
use Rattle.text.specs.Grammar.{closing}
use Rattle.repeats.specs.Closed.{aside_name}
use Rattle.json_reader.specs.Readers.{limits_in, bracket_of, item_of}
use Rattle.json_reader.proofs.Items.{Upto}
use Rattle.json_reader.proofs.values.+read_container_read_item_read_items_read_value.Given as goal

abbrev pub decreases-read_container : goal.decreases-read_container
decreases-read_container l = 4 * l.depth + 0

abbrev pub decreases-read_item : goal.decreases-read_item
decreases-read_item l = 4 * l.depth + 2

abbrev pub decreases-read_items : goal.decreases-read_items
decreases-read_items l = 4 * l.depth + 3

abbrev pub decreases-read_value : goal.decreases-read_value
decreases-read_value l = 4 * l.depth + 1

abbrev pub invariant-read_items-loop-to : goal.invariant-read_items-loop-to
invariant-read_items-loop-to l =
    let L = limits_in l.fn.names in
    Upto l.parent l.text (aside_name L l.text (bracket_of l.of)) (item_of L l.of l.text l.depth) (closing (bracket_of l.of)) l.start
    l.first l.top l.fn.table l.fn.names l.at l.count l.end l.table l.names

abbrev pub decreases-read_items-loop-to : goal.decreases-read_items-loop-to
decreases-read_items-loop-to l = length l.text - l.at
