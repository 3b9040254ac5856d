-- `pointers::parts::part_order` meets its contract: where both cursors stand at places, these are compared as written (`order_fresh`). Assumes nothing.
use mathlib.Core.Path.{◌≡◌, ◌∙◌}
use Rattle.pointers.proofs.Laws.Glyphs.{order_fresh}
use Rattle.pointers.proofs.parts.part_order.Goals as goal

pub returns-then-part-ne0 : goal.returns-then-part-ne0
returns-then-part-ne0 g c = c.decoded_order.ensures

pub returns : goal.returns
returns g c =
    let a = c.args in
    c.written_order.ensures ∙ order_fresh a.part.key.now a.other.key.now g.K.Kind.part a.part.at a.other.at c.if-part-ne0.false c.if-other-ne0.false
