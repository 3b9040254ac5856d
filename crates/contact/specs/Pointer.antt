-- Pointers: the keys of a PatchObject, decoded (RFC 6901 and RFC 9553, section 1.4.3; docs/RULES.md, 6.2).
-- Assumes nothing: these are definitions.
use Rattle.std.specs.Prelude.{ℕ, List, [], ◌∷◌, Bool, false, not, cond, ◌&&◌, ◌||◌, eqb}
use Rattle.std.proofs.Math.Option.{Option, none, some}
use Rattle.laws.specs.Order.{same}
use Rattle.text.specs.Doc.{Name, Doc, scalar, array, object, Property, seek}

-- one part or more
pub data Pointer : Type 0 where
  last : Name → Pointer
  down : Name → Pointer → Pointer

-- ---- from a key

-- a byte put in front of the first part
abbrev pub push : ℕ → Pointer → Pointer
push b (last n) = last (b ∷ n)
push b (down n p) = down (b ∷ n) p

-- a key split at `/` (47); the key "" is one empty part
abbrev pub split : List ℕ → Pointer
split [] = last []
split (b ∷ bs) = let rest = split bs in cond (eqb b 47) (down [] rest) (push b rest)

-- then `~1` (126 49) means `/` and `~0` (126 48) means `~`, each byte used once, so `~01` is `~1`
abbrev pub plain : List ℕ → Name
plain [] = []
plain (b ∷ []) = b ∷ []
plain (b ∷ c ∷ bs) =
    let byte : Name = b ∷ plain (c ∷ bs) in
    let slash : Name = 47 ∷ plain bs in
    let tilde : Name = 126 ∷ plain bs in
    cond (eqb b 126) (cond (eqb c 49) slash (cond (eqb c 48) tilde byte)) byte

-- so in each part
abbrev pub plain_parts : Pointer → Pointer
plain_parts (last n) = last (plain n)
plain_parts (down n p) = down (plain n) (plain_parts p)

-- the pointer of a key: split, and then each part made plain
abbrev pub pointer_of : (key : Name) → Pointer
pointer_of key = plain_parts (split key)

-- `0` (48) or `1` (49) comes first
abbrev pub zero_or_one : List ℕ → Bool
zero_or_one [] = false
zero_or_one (b ∷ bs) = eqb b 48 || eqb b 49

-- 22: somewhere stands a `~` that neither `0` nor `1` follows
abbrev pub bad_tilde : (key : Name) → Bool
bad_tilde [] = false
bad_tilde (b ∷ bs) = (eqb b 126 && not (zero_or_one bs)) || bad_tilde bs

-- ---- what pointers say of each other

-- the part at which the walk begins
abbrev pub first_part : Pointer → Name
first_part (last n) = n
first_part (down n p) = n

-- the name of the property that it names
abbrev pub last_part : Pointer → Name
last_part (last n) = n
last_part (down n p) = last_part p

-- all parts in their order
abbrev pub parts : Pointer → List Name
parts (last n) = n ∷ []
parts (down n p) = n ∷ parts p

-- one is a prefix of the other, over whole parts
abbrev pub clash : Pointer → Pointer → Bool
clash (last n) (last m) = same n m
clash (last n) (down m q) = same n m
clash (down n p) (last m) = same n m
clash (down n p) (down m q) = let more = clash p q in cond (same n m) more false

-- ---- the property that a pointer names

-- the member n of a value: only objects have members
abbrev pub child : Name → Doc → Option Property
child n (scalar kind token) = none
child n (array ms) = none
child n (object ms) = seek n ms

-- on from a property, if there is one
abbrev pub within : (Doc → Option Property) → Option Property → Option Property
within f none = none
within f (some p) = f p.content

-- the property that a pointer names in a document, if it is there
abbrev pub find : Pointer → Doc → Option Property
find (last n) d = child n d
find (down n p) d = within (find p) (child n d)
