-- `bezinkol::bezinkol_pieces_start` meets its contract: what the two callees ensure. Assumes nothing.
use mathlib.Core.Path.{ap, ◌∙◌}
use Rattle.wire.specs.Held.{words_of}
use Rattle.wire.specs.Service.{wired}
use Rattle.bezinkol.proofs.bezinkol_pieces_start.Goals as goal

pub returns : goal.returns
unfolding wired
returns c = c.put_held.ensures ∙ ap words_of c.start.ensures
