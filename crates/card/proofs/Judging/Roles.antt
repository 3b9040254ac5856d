-- The members of a type that is no object type; and below a single item stands nothing that is judged.
-- Assumes nothing.
use mathlib.Core.Path.{◌≡◌, refl}
use mathlib.Core.Bool.{true}
use Rattle.text.specs.Doc as D
use Rattle.contact.specs.Schema.{any, simple, object_of, list_of, map_of, by_type}
use Rattle.contact.specs.Schema as S
use Rattle.contact.specs.Judge.{type_below, chosen, key_fits}
use Rattle.card.specs.Types.{item_type, NotObject, inner_type}
use Rattle.card.specs.declared.items.Item.{Item}
use Rattle.card.specs.declared.items.Item.TheVariants.{Any, Simple, ObjectOf, AnyObject, ByType}

pub member_other : (ty : S.Ty) (n : D.Name) → NotObject ty → inner_type ty ≡ type_below ty n
member_other any n h = refl
member_other (simple l) n h = refl
member_other (object_of o) n h = absurd h
member_other (list_of ty) n h = refl
member_other (map_of keys ty) n h = refl
member_other (by_type usual special) n h = absurd h

pub item_keys : (i : Item) (k : S.Key) → true ≡ key_fits (item_type i) k
item_keys Any k = refl
item_keys (Simple i) k = refl
item_keys (ObjectOf o) k = refl
item_keys AnyObject k = refl
item_keys (ByType usual special) k = refl

-- only a choice of two hangs on the value
pub itself_chosen : (ty : S.Ty) (d : D.Doc) → NotObject ty → ty ≡ chosen ty d
itself_chosen any d h = refl
itself_chosen (simple l) d h = refl
itself_chosen (object_of o) d h = absurd h
itself_chosen (list_of ty) d h = refl
itself_chosen (map_of keys ty) d h = refl
itself_chosen (by_type usual special) d h = absurd h
