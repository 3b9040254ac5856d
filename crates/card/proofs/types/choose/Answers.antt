-- `card::types::choose` meets its contract: only a choice of two looks at the value. Assumes nothing.
use mathlib.Core.Path.{◌≡◌, ◌∙◌}
use Rattle.contact.specs.Schema.{by_type}
use Rattle.card.specs.Types.{type_at}
use Rattle.card.proofs.Known.Codes.{choice_small}
use Rattle.card.proofs.types.choose.Goals as goal

-- a choice of two stands there
chosen_of : (c : goal.Then-is_of)
    → type_at c.args.code ≡ by_type c.in-Between.usual c.in-Between.special
chosen_of c = rw (c.in-Between.is, c.type_of.ensures) at c.role_of.ensures

pub object_of-requires : goal.object_of-requires
object_of-requires c = (choice_small _ _ _ (chosen_of c)).1

-- a choice of two stands there
chosen_of_2 : (c : goal.After-object_of)
    → type_at c.args.code ≡ by_type c.in-Between.usual c.in-Between.special
chosen_of_2 c = rw (c.in-Between.is, c.type_of.ensures) at c.role_of.ensures

pub returns-then-is_of : goal.returns-then-is_of
returns-then-is_of c = λ f v. c.object_of.ensures ∙ rw (chosen_of_2 c, ← c.is_of.ensures f v, c.if-is_of.true)

-- a choice of two stands there
chosen_of_3 : (c : goal.Else-is_of)
    → type_at c.args.code ≡ by_type c.in-Between.usual c.in-Between.special
chosen_of_3 c = rw (c.in-Between.is, c.type_of.ensures) at c.role_of.ensures

pub object_of-requires-in-Between : goal.object_of-requires-in-Between
object_of-requires-in-Between c = (choice_small _ _ _ (chosen_of_3 c)).0

-- a choice of two stands there
chosen_of_4 : (c : goal.After-object_of-in-Between)
    → type_at c.args.code ≡ by_type c.in-Between.usual c.in-Between.special
chosen_of_4 c = rw (c.in-Between.is, c.type_of.ensures) at c.role_of.ensures

pub returns-else-is_of : goal.returns-else-is_of
returns-else-is_of c = λ f v. c.object_of-in-Between.ensures ∙ rw (chosen_of_4 c, ← c.is_of.ensures f v, c.if-is_of.false)
