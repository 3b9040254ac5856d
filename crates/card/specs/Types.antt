-- What the code's types stand for. Assumes nothing: these are definitions.
use Rattle.std.specs.Prelude.{ℕ, ◌-◌, ◌/◌, ◌%◌, ◌≡◌, List, Bool, true, false, cond, leb, eqb}
use Rattle.text.specs.Text.{bytes}
use Rattle.contact.specs.Schema.{any_string, exactly, flag, yes, count, time, free, ids, any, simple, object_of, list_of, map_of, by_type, own_name}
use Rattle.contact.specs.Schema as S
use Rattle.contact.specs.Judge.{allowed_simple}
use Rattle.card.specs.declared.items.Keys.{Keys}
use Rattle.card.specs.declared.items.Keys.TheVariants.{Free, Ids}
use Rattle.card.specs.declared.items.SimpleItem.{SimpleItem}
use Rattle.card.specs.declared.items.SimpleItem.TheVariants.{AnyString, TypeName, Version, Flag, Yes, Count, Time}
use Rattle.card.specs.declared.items.Item.{Item}
use Rattle.card.specs.declared.items.Item.TheVariants.{Any, Simple, ObjectOf, AnyObject, ByType}
use Rattle.card.specs.declared.items.Role.{Role}
use Rattle.card.specs.declared.items.Role.TheVariants.{As, Between, Other}
use Rattle.card.specs.declared.items.Ty.{Ty}
use Rattle.card.specs.declared.items.Ty.TheVariants.{One, ListOf, MapOf}

-- the keys of a map
abbrev pub keys_of : Keys → S.Keys
keys_of Free = free
keys_of Ids = ids

-- what a value that holds no others may have to be
abbrev pub simple_of : SimpleItem → S.SimpleType
simple_of AnyString = any_string
simple_of (TypeName o) = exactly (bytes (own_name o))
simple_of Version = exactly (bytes "1.0")
simple_of Flag = flag
simple_of Yes = yes
simple_of (Count low high) = count low high
simple_of Time = time

-- an item is a type by itself
abbrev pub item_type : Item → S.Ty
item_type Any = any
item_type (Simple i) = simple (simple_of i)
item_type (ObjectOf o) = object_of o
item_type AnyObject = map_of free any
item_type (ByType usual special) = by_type usual special

-- a type of the code: an item, a list or a map of such
abbrev pub type_of : Ty → S.Ty
type_of (One i) = item_type i
type_of (ListOf i) = list_of (item_type i)
type_of (MapOf k i) = map_of (keys_of k) (item_type i)

-- nothing is asked of a value of the type
abbrev pub is_any : S.Ty → Bool
is_any any = true
is_any (simple l) = false
is_any (object_of o) = false
is_any (list_of ty) = false
is_any (map_of keys ty) = false
is_any (by_type usual special) = false

-- ---- roles

-- it is no object type, and no choice of two
abbrev pub NotObject : S.Ty → Type 0
NotObject any = Prim.Unit {0}
NotObject (simple l) = Prim.Unit {0}
NotObject (object_of o) = ⊥
NotObject (list_of ty) = Prim.Unit {0}
NotObject (map_of keys ty) = Prim.Unit {0}
NotObject (by_type usual special) = ⊥

-- the answer says whether a type is an object type, and which
abbrev pub AsObject : Role → S.Ty → Type 0
AsObject (As o) ty = ty ≡ object_of o
AsObject (Between usual special) ty = ty ≡ by_type usual special
AsObject Other ty = NotObject ty

-- the type of the members of a type that is no object type
abbrev pub inner_type : S.Ty → S.Ty
inner_type any = any
inner_type (simple l) = any
inner_type (object_of o) = any
inner_type (list_of ty) = ty
inner_type (map_of keys ty) = ty
inner_type (by_type usual special) = any

-- a value that is allowed, by its kind and its token: only simple ones are asked
abbrev pub allowed_as : S.Ty → (kind : ℕ) → (token : List ℕ) → Bool
allowed_as any kind token = true
allowed_as (simple l) kind token = allowed_simple l kind token
allowed_as (object_of o) kind token = true
allowed_as (list_of ty) kind token = true
allowed_as (map_of keys ty) kind token = true
allowed_as (by_type usual special) kind token = true

-- ---- what the numbers of the code's table stand for

-- the pairs of bounds, by their numbers
abbrev pub bounded_at : ℕ → S.SimpleType
bounded_at i = cond (eqb i 0) (count 1 100) (count 0 0)

-- an item: a choice of two types from 4096 on, a type's own name from 128 on, an object of a type from 64 on, a pair of bounds from 32 on, below that the rest
unfoldable pub item_at : ℕ → S.Ty
item_at n =
    cond (leb 4096 n) (by_type ((n - 4096) / 64) ((n - 4096) % 64))
    (cond (leb 128 n) (simple (exactly (bytes (own_name (n - 128)))))
    (cond (leb 64 n) (object_of (n - 64))
    (cond (leb 32 n) (simple (bounded_at (n - 32)))
    (cond (eqb n 1) (simple any_string)
    (cond (eqb n 2) (simple (exactly (bytes "1.0")))
    (cond (eqb n 3) (simple flag)
    (cond (eqb n 4) (simple yes)
    (cond (eqb n 5) (simple time)
    (cond (eqb n 6) (map_of free any) any)))))))))

-- a property's type: its item, and above that whether it is a list or a map of such
unfoldable pub type_at : ℕ → S.Ty
type_at code =
    let item = item_at (code % 8192) in
    let shape = code / 8192 % 4 in
    cond (eqb shape 1) (list_of item)
    (cond (eqb shape 2) (map_of free item)
    (cond (eqb shape 3) (map_of ids item) item))
