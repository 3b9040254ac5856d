-- `pointers::parts::part_order_at` meets its contract: from its start on the name is left whole. Assumes nothing.
use Rattle.laws.specs.Scan.{scan}
use Rattle.text.specs.Strings.{piece_by, decode_from}
use Rattle.text.specs.Utf8.{conts}
use Rattle.pointers.proofs.parts.part_order_at.Goals as goal

pub returns : goal.returns
unfolding conts decode_from scan piece_by
returns c = c.written_order.ensures
