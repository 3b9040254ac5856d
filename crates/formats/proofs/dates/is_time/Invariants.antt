-- `formats::dates::is_time` meets its contract: nineteen bytes by their shape, and then the rest.
-- Assumes nothing.
use Rattle.text.specs.Strings.{decode}
use Rattle.json_reader.specs.Cursors.{rest}
use Rattle.formats.proofs.Laws.Times.{Begun}
use Rattle.formats.proofs.dates.is_time.Given as goal

abbrev pub invariant-loop-i : goal.invariant-loop-i
invariant-loop-i l = Begun (decode l.content) l.head (rest l.content l.at) l.i
