-- The types of a card and the one table of their known properties and rules (RFC 9553, sections 1 and 2; docs/RULES.md, 5.4 to 5.6).
-- A new property is a line here and its signature in Signatures.antt; a new object type is its number, its record in `types` and its signatures.
-- Assumes nothing: these are definitions.
use Rattle.std.specs.Prelude.{ℕ, List, [], ◌∷◌, Bool, true, false, cond, get_or, eqb}
use Prim.Native.String.{String}
use Rattle.text.specs.Text.{bytes}
use Rattle.laws.specs.Order.{same}
use Rattle.text.specs.Doc.{Name}

-- ---- types

-- the objects that have known properties, by their place in `types`
abbrev pub ObjectType : Type 0
ObjectType = ℕ

-- Card
abbrev pub card : ObjectType
card = 0

-- Name
abbrev pub name : ObjectType
name = 1

-- NameComponent
abbrev pub name_component : ObjectType
name_component = 2

-- Address
abbrev pub address : ObjectType
address = 3

-- AddressComponent
abbrev pub address_component : ObjectType
address_component = 4

-- EmailAddress
abbrev pub email_address : ObjectType
email_address = 5

-- Phone
abbrev pub phone : ObjectType
phone = 6

-- what a value may be that holds no others; a new one has its kinds and values by a test (below, and Judge.antt) and by what they are (AskedKinds.antt,
-- Breaches.antt)
pub data SimpleType : Type 0 where
  -- String
  any_string : SimpleType
  -- a String with just that content, as `@type` and `version`
  exactly : Name → SimpleType
  -- Boolean
  flag : SimpleType
  -- a value of a set: true
  yes : SimpleType
  -- UnsignedInt from low to high
  count : (low high : ℕ) → SimpleType
  -- UTCDateTime
  time : SimpleType

-- the keys of a map: any, or Ids
pub data Keys : Type 0 where
  free ids : Keys

-- a key as it stands in its object: its name, and the names before it there, the nearest first
pub record Key : Type 0 where
  pub name : Name
  pub before : List Name

-- what a value is asked to be
pub data Ty : Type 0 where
  -- of an unknown property, and of what stands below it: nothing is judged
  any : Ty
  simple : SimpleType → Ty
  object_of : ObjectType → Ty
  -- an array of such values
  list_of : Ty → Ty
  -- an object of such values
  map_of : Keys → Ty → Ty
  -- an object of the special type where its `@type` is that type's own name, else of the usual one
  by_type : (usual special : ObjectType) → Ty

-- `pref` is 1 to 100
abbrev pub pref : Ty
pref = simple (count 1 100)

-- a set: an object whose values are all true
abbrev pub key_set : Ty
key_set = map_of free (simple yes)

-- an object whose members aren't judged
abbrev pub any_object : Ty
any_object = map_of free any

-- any String
abbrev pub string : Ty
string = simple any_string

-- ---- the table: spelling, type, mandatory

-- a line of the table: a property by its name, the type of its value, and whether it must be there
pub record Known : Type 0 where
  pub spelling : Name
  pub type : Ty
  pub mandatory : Bool

-- a mandatory property
abbrev pub must : String → Ty → Known
must s ty = record { spelling = bytes s; type = ty; mandatory = true }

-- an optional one
abbrev pub may : String → Ty → Known
may s ty = record { spelling = bytes s; type = ty; mandatory = false }

-- `@type` of a nested type: if there, it is the type's own name
abbrev pub type_line : String → Known
type_line s = may "@type" (simple (exactly (bytes s)))

-- what Name and Address share, but for the type of `components`
abbrev pub naming : List Known
naming =
    may "isOrdered" (simple flag)
    ∷ may "defaultSeparator" string
    ∷ may "full" string
    ∷ may "phoneticScript" string
    ∷ may "phoneticSystem" string
    ∷ []

-- NameComponent and AddressComponent
abbrev pub component : List Known
component = must "value" string ∷ must "kind" string ∷ may "phonetic" string ∷ []

-- what EmailAddress and Phone share
abbrev pub contact : List Known
contact = may "contexts" key_set ∷ may "pref" pref ∷ may "label" string ∷ []

-- ---- rules between members

-- A rule between the members of an object (refusal 14). It counts a member only as the table has it: one of the wrong kind is absent.
pub data Rule : Type 0 where
  -- one of these is there
  one_of : (members : List String) → Rule
  -- where the first is there, so is one of the others
  needs : (member : String) → (others : List String) → Rule
  -- where the first is there, the other is a String with that content
  needs_string : (member other content : String) → Rule
  -- where the first is there, the other is true
  needs_true : (member other : String) → Rule
  -- of a list of such entries: no two separators stand in a row, and where `order` isn't true there is none
  separators : (list order : String) → (entry : ObjectType) → Rule
  -- a list of such entries, where it is there, has one that isn't a separator
  not_only : (list : String) → (entry : ObjectType) → Rule

-- the members that a rule counts
abbrev pub names_in : Rule → List String
names_in (one_of ns) = ns
names_in (needs n ns) = n ∷ ns
names_in (needs_string n m content) = n ∷ m ∷ []
names_in (needs_true n m) = n ∷ m ∷ []
names_in (separators list order entry) = list ∷ order ∷ []
names_in (not_only list entry) = list ∷ []

-- the types of the entries that it looks at
abbrev pub entries_in : Rule → List ObjectType
entries_in (one_of ns) = []
entries_in (needs n ns) = []
entries_in (needs_string n m content) = []
entries_in (needs_true n m) = []
entries_in (separators list order entry) = entry ∷ []
entries_in (not_only list entry) = entry ∷ []

-- Name and Address, and the type of their entries
abbrev pub separated : ObjectType → List Rule
separated entry =
    separators "components" "isOrdered" entry
    ∷ needs_true "defaultSeparator" "isOrdered"
    ∷ needs "defaultSeparator" ("components" ∷ [])
    ∷ []

-- ---- the object types

-- an object type: the name that its `@type` has, its known properties, and the rules between them
pub record TypeRecord : Type 0 where
  pub own : String
  pub known : List Known
  pub rules : List Rule

-- all of them; the place of each is its number above
unfoldable pub types : List TypeRecord
types =
    record {
      own = "Card";
      known =
          must "@type" (simple (exactly (bytes "Card")))
          ∷ must "version" (simple (exactly (bytes "1.0")))
          ∷ must "uid" string
          ∷ may "created" (simple time)
          ∷ may "updated" (simple time)
          ∷ may "kind" string
          ∷ may "language" string
          ∷ may "prodId" string
          ∷ may "members" key_set
          ∷ may "name" (object_of name)
          ∷ may "emails" (map_of ids (object_of email_address))
          ∷ may "phones" (map_of ids (object_of phone))
          ∷ may "addresses" (map_of ids (object_of address))
          ∷ may "localizations" (map_of free any_object)
          ∷ [];
      rules = needs_string "members" "kind" "group" ∷ [];
    }
    ∷ record {
      own = "Name";
      known =
          type_line "Name"
          ∷ may "components" (list_of (object_of name_component))
          ∷ may "sortAs" (map_of free string)
          ∷ naming;
      rules = one_of ("full" ∷ "components" ∷ []) ∷ not_only "components" name_component ∷ separated name_component;
    }
    ∷ record { own = "NameComponent"; known = type_line "NameComponent" ∷ component; rules = [] }
    -- an Address may have neither `full` nor `components`, and the entry that isn't a separator isn't asked of it (house ruling)
    ∷ record {
      own = "Address";
      known =
          type_line "Address"
          ∷ may "components" (list_of (object_of address_component))
          ∷ may "countryCode" string
          ∷ may "coordinates" string
          ∷ may "timeZone" string
          ∷ may "contexts" key_set
          ∷ may "pref" pref
          ∷ naming;
      rules = separated address_component;
    }
    ∷ record { own = "AddressComponent"; known = type_line "AddressComponent" ∷ component; rules = [] }
    ∷ record { own = "EmailAddress"; known = type_line "EmailAddress" ∷ must "address" string ∷ contact; rules = [] }
    ∷ record { own = "Phone"; known = type_line "Phone" ∷ must "number" string ∷ may "features" key_set ∷ contact; rules = [] }
    ∷ []

-- what stands behind the last one: nothing is known of it
abbrev pub no_type : TypeRecord
no_type = record { own = ""; known = []; rules = [] }

-- the record of an object type
unfoldable pub record_of : ObjectType → TypeRecord
record_of o = get_or types o no_type

-- its own name
abbrev pub own_name : ObjectType → String
own_name o = (record_of o).own

-- its known properties
abbrev pub properties : ObjectType → List Known
properties o = (record_of o).known

-- its rules between members
abbrev pub rules_of : ObjectType → List Rule
rules_of o = (record_of o).rules

-- the type of the property of that name, by the table
unfoldable pub type_in : List Known → Name → Ty
type_in [] n = any
type_in (k ∷ ks) n = let more = type_in ks n in cond (same n k.spelling) k.type more

-- ---- the JSON kinds of a type: 1 null, 2 false, 3 true, 4 number, 5 string, 6 array, 7 object. Null fits no listed type

-- a value that holds no others may be of that kind
abbrev pub fits_simple : SimpleType → ℕ → Bool
fits_simple any_string kind = eqb kind 5
fits_simple (exactly n) kind = eqb kind 5
fits_simple flag kind = cond (eqb kind 2) true (eqb kind 3)
fits_simple yes kind = cond (eqb kind 2) true (eqb kind 3)
fits_simple (count low high) kind = eqb kind 4
fits_simple time kind = eqb kind 5

-- a value of the type may be of that kind
abbrev pub fits : Ty → ℕ → Bool
fits any kind = true
fits (simple l) kind = fits_simple l kind
fits (object_of o) kind = eqb kind 7
fits (list_of ty) kind = eqb kind 6
fits (map_of keys ty) kind = eqb kind 7
fits (by_type usual special) kind = eqb kind 7
