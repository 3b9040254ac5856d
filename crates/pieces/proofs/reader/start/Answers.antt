-- `pieces::reader::start` meets its contract by computation. Assumes nothing.
use Rattle.wire.specs.Held.{held_of, bits_of}
use Rattle.pieces.proofs.reader.start.Goals as goal

pub returns : goal.returns
unfolding held_of bits_of
returns c = c.alone.ensures
