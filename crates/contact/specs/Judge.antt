-- The verdict on a document (docs/RULES.md, 5.2), by the one table of types: the first breach in the order of the rows, and on one row the smallest number.
-- Nothing here speaks of places, so a card that is written nowhere can be judged too.
-- Assumes nothing: these are definitions.
use Rattle.std.specs.Prelude.{ℕ, zero, suc, ◌+◌, List, [], ◌∷◌, Bool, true, false, not, cond, ◌&&◌, eqb}
use Rattle.laws.specs.Order.{same}
use Rattle.text.specs.Text.{bytes}
use Rattle.text.specs.Strings.{content_of}
use Rattle.text.specs.Doc.{Name, Doc, scalar, array, object, Members, empty, member, kind_of, token_of, children_of, count_of, seek, is_there}
use Rattle.contact.specs.Schema.{SimpleType, any_string, exactly, flag, yes, count, time, Keys, free, ids, Key, Ty, any, simple, object_of, list_of, map_of, by_type, ObjectType, card, Known, properties, own_name, type_in, fits}
use Rattle.contact.specs.Values.{is_id, is_count}
use Rattle.contact.specs.Dates.{is_time}
use Rattle.contact.specs.Rules.{has_kind, breaks}

-- ---- one row

-- 12: a mandatory member isn't there; one of the wrong kind is
unfoldable pub lacking : List Known → Members → Bool
lacking [] ms = false
lacking (k ∷ ks) ms = let more = lacking ks ms in cond (k.mandatory && not (is_there (seek k.spelling ms))) true more

-- of a value of a type: only objects have mandatory members
abbrev pub lacks : Ty → Members → Bool
lacks any ms = false
lacks (simple l) ms = false
lacks (object_of o) ms = lacking (properties o) ms
lacks (list_of ty) ms = false
lacks (map_of keys ty) ms = false
lacks (by_type usual special) ms = false

-- 13: a value that is allowed, by its kind and its token
abbrev pub allowed_simple : SimpleType → (kind : ℕ) → (token : List ℕ) → Bool
allowed_simple any_string kind token = true
allowed_simple (exactly n) kind token = same (content_of token) n
allowed_simple flag kind token = true
allowed_simple yes kind token = eqb kind 3
allowed_simple (count low high) kind token = is_count low high token
allowed_simple time kind token = is_time (content_of token)

-- of a value of a type: only simple ones are asked
abbrev pub allowed : Ty → Doc → Bool
allowed any d = true
allowed (simple l) d = allowed_simple l (kind_of d) (token_of d)
allowed (object_of o) d = true
allowed (list_of ty) d = true
allowed (map_of keys ty) d = true
allowed (by_type usual special) d = true

-- 14: a rule between members
abbrev pub breaks_rule : Ty → Members → Bool
breaks_rule any ms = false
breaks_rule (simple l) ms = false
breaks_rule (object_of o) ms = breaks o ms
breaks_rule (list_of ty) ms = false
breaks_rule (map_of keys ty) ms = false
breaks_rule (by_type usual special) ms = false

-- The smallest number that a value breaks by itself, or 0; 11 where its kind isn't the type's, and then it isn't looked into.
-- `key` is whether it stands under a key that its map allows: a key that is no Id is 13 on the value's row
unfoldable pub row_number : Ty → (key : Bool) → Doc → ℕ
row_number ty key d =
    let fine : ℕ = cond (breaks_rule ty (children_of d)) 14 0 in
    let value : ℕ = cond (key && allowed ty d) fine 13 in
    let whole : ℕ = cond (lacks ty (children_of d)) 12 value in
    cond (fits ty (kind_of d)) whole 11

-- ---- what stands below

-- is it an object whose `@type` is the own name of that type?
unfoldable pub is_of : ObjectType → Doc → Bool
is_of o d = let named = has_kind (bytes (own_name o)) (seek (bytes "@type") (children_of d)) in cond (eqb (kind_of d) 7) named false

-- the type that is asked of a value where a type stands: its `@type` may choose it
abbrev pub chosen : Ty → Doc → Ty
chosen any d = any
chosen (simple l) d = simple l
chosen (object_of o) d = object_of o
chosen (list_of ty) d = list_of ty
chosen (map_of keys ty) d = map_of keys ty
chosen (by_type usual special) d = object_of (cond (is_of special d) special usual)

-- the type that stands for a member of that name; none for an unknown property
abbrev pub type_below : Ty → Name → Ty
type_below any n = any
type_below (simple l) n = any
type_below (object_of o) n = type_in (properties o) n
type_below (list_of ty) n = ty
type_below (map_of keys ty) n = ty
type_below (by_type usual special) n = any

-- the type that is asked of a member, by its name and its value
abbrev pub member_type : Ty → Name → Doc → Ty
member_type ty n d = chosen (type_below ty n) d

-- is a key allowed?
abbrev pub key_in : Keys → Key → Bool
key_in free k = true
key_in ids k = is_id k.name

-- of an entry of a value of a type: only keys of maps are asked; a key that isn't allowed is 13 on the row of its value
abbrev pub key_fits : Ty → Key → Bool
key_fits any k = true
key_fits (simple l) k = true
key_fits (object_of o) k = true
key_fits (list_of ty) k = true
key_fits (map_of keys ty) k = key_in keys k
key_fits (by_type usual special) k = true

-- ---- the first breach

-- what a search finds: no breach, or a row and a number of the sheet
pub data Breach : Type 0 where
  nothing : Breach
  found : (row number : ℕ) → Breach

-- the number on this row, unless it is 0; else what is inside
abbrev pub on_this_row : (number row : ℕ) → Breach → Breach
on_this_row zero row inside = inside
on_this_row (suc n) row inside = found row (suc n)

-- the one breach, or the other if there is none
abbrev pub or_else : Breach → Breach → Breach
or_else nothing after = after
or_else (found row number) after = found row number

unfoldable mutual
  -- a value of a type, on a row
  pub breach_of : Ty → (key : Bool) → (row : ℕ) → Doc → Breach
  breach_of ty key row (scalar kind token) = on_this_row (row_number ty key (scalar kind token)) row nothing
  breach_of ty key row (array ms) = let inside = breach_among ty [] (row + 1) ms in on_this_row (row_number ty key (array ms)) row inside
  breach_of ty key row (object ms) = let inside = breach_among ty [] (row + 1) ms in on_this_row (row_number ty key (object ms)) row inside

  -- the members of a value of a type after those whose names are `passed`, the first of them on a row
  pub breach_among : Ty → (passed : List Name) → (row : ℕ) → Members → Breach
  breach_among ty passed row empty = nothing
  breach_among ty passed row (member n label d ms) =
      let after = breach_among ty (n ∷ passed) (row + count_of d) ms in
      or_else (breach_of (member_type ty n d) (key_fits ty (record { name = n; before = passed })) row d) after

-- a whole card
abbrev pub card_breach : Doc → Breach
card_breach d = breach_of (object_of card) true 0 d
