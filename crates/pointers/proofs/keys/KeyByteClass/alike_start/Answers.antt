-- `pointers::keys::KeyByte::alike_start` meets its contract: plain bytes mean nothing but themselves (`alike_raw`). Assumes nothing.
use Rattle.pointers.proofs.Laws.Beginnings.{alike_raw}
use Rattle.pointers.proofs.keys.KeyByteClass.alike_start.Goals as goal

pub returns : goal.returns
returns c = alike_raw c.alike_plain_from.ensures.run
