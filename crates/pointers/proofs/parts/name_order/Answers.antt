-- `pointers::parts::name_order` meets its contract: from its start on a name is left whole. Assumes nothing.
use Rattle.laws.specs.Scan.{scan}
use Rattle.text.specs.Strings.{piece_by, decode_from}
use Rattle.text.specs.Utf8.{conts}
use Rattle.pointers.proofs.parts.name_order.Goals as goal

pub returns : goal.returns
unfolding conts decode_from scan piece_by
returns c = c.written_order.ensures
