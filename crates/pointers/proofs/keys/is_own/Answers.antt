-- `pointers::keys::is_own` meets its contract: a name that is read from its start on is what it decodes to. Assumes nothing.
use mathlib.Core.Path.{ap, ◌∙◌}
use mathlib.Core.Bool.{true, false}
use Rattle.laws.specs.Order.{is_same}
use Rattle.laws.specs.Scan.{scan}
use Rattle.text.specs.Strings.{piece_by, decode_from}
use Rattle.text.specs.Utf8.{conts}
use Rattle.pointers.proofs.Laws.Parts.{order_sides}
use Rattle.pointers.proofs.keys.is_own.Goals as goal

pub returns : goal.returns
unfolding conts decode_from scan piece_by
returns c =
    c.part_same.ensures
    ∙ ap is_same (order_sides true false c.left.ensures.0 (c.left.ensures.1 ∙ c.start.ensures) c.left-2.ensures.0 (c.left-2.ensures.1 ∙ c.start-2.ensures))
