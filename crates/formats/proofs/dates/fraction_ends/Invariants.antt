-- `formats::dates::fraction_ends` meets its contract: digit by digit. The measure is the number of bytes that the cursor has left. Assumes nothing.
use mathlib.Core.Path.{◌≡◌}
use lib.ListN.{length}
use Rattle.json_reader.specs.Cursors.{rest}
use Rattle.contact.specs.Dates.{fraction_ends}
use Rattle.formats.proofs.dates.fraction_ends.Given as goal

abbrev pub invariant-loop-b : goal.invariant-loop-b
invariant-loop-b l = fraction_ends l.last (rest l.content l.at) ≡ fraction_ends 48 (rest l.content l.initial.at)

abbrev pub decreases-loop-b : goal.decreases-loop-b
decreases-loop-b l = length (rest l.content l.at)
