-- `card::types::type_below` meets its contract: an object type has it in the table, any other in itself. Assumes nothing.
use mathlib.Core.Path.{◌∙◌}
use Rattle.card.proofs.Known.Codes.{any_code}
use Rattle.card.proofs.types.type_below.Goals as goal

pub returns-in-Between : goal.returns-in-Between
returns-in-Between c =
    let is = rw (c.in-Between.is, c.type_of.ensures) at c.role_of.ensures in
    any_code ∙ rw is
