-- What the refusal sheet says of a card, value by value: which values of a card stand where a type is asked, on which rows, and what each of them
-- breaks by itself. No search and no order stands here but in `FirstBreach`, at the end.
-- docs/RULES.md, 5.1 and 5.2. Assumes nothing: these are definitions.
use Rattle.std.specs.Prelude.{ℕ, ◌+◌, ◌≤◌, ◌≡◌, true}
use mathlib.Core.List.{List, [], ◌∷◌, Memᴰ as In}
use Rattle.text.specs.Text.{bytes}
use Rattle.text.specs.Strings.{content_of}
use Rattle.text.specs.Doc.{Name, Doc, scalar, array, object, Members, empty, member, kind_of, token_of, children_of, count_of}
use Rattle.contact.specs.Schema.{ObjectType, exactly, yes, count, time, Keys, ids, Key, Ty, simple, object_of, any, list_of, map_of, by_type, SimpleType, card, Known, properties, own_name}
use Rattle.contact.specs.SimpleValues.{Id, UnsignedInt, UTCDateTime}
use Rattle.contact.specs.AskedKinds.{Suits}
use Rattle.contact.specs.BetweenMembers.{HasMember, IsString, BreaksBetween}

-- ---- what the rules see of a value

-- its kind as in its row, its token if it holds no others, and the members right below it
pub data Sees : Doc → (kind : ℕ) → (token : List ℕ) → Members → Type 0 where
  token : {kind : ℕ} {w : List ℕ} → Sees (scalar kind w) kind w empty
  list : {ms : Members} → Sees (array ms) 6 [] ms
  box : {ms : Members} → Sees (object ms) 7 [] ms

-- ---- where types are asked

-- what a value stands under: in a map its key; elsewhere nothing that is judged
pub data Under : Type 0 where
  unkeyed : Under
  key : Keys → Key → Under

-- an object whose `@type` is the own name of that type
pub data IsOf (o : ObjectType) : Doc → Type 0 where
  named : {ms : Members} {type : Doc} → HasMember ms (bytes "@type") type → IsString (own_name o) type → IsOf o (object ms)

-- the type that is asked of a value where a type stands: that one itself, or the one of two that its `@type` chooses
pub data Chooses : Ty → Doc → Ty → Type 0 where
  nothing : {d : Doc} → Chooses any d any
  value : {l : SimpleType} {d : Doc} → Chooses (simple l) d (simple l)
  typed : {o : ObjectType} {d : Doc} → Chooses (object_of o) d (object_of o)
  list : {ty : Ty} {d : Doc} → Chooses (list_of ty) d (list_of ty)
  map : {keys : Keys} {ty : Ty} {d : Doc} → Chooses (map_of keys ty) d (map_of keys ty)
  special_one : {usual special : ObjectType} {d : Doc} → IsOf special d → Chooses (by_type usual special) d (object_of special)
  usual_one : {usual special : ObjectType} {d : Doc} → ¬ IsOf special d → Chooses (by_type usual special) d (object_of usual)

-- the type of a value that stands below a value of a type, by its key there and by itself; unknown properties have none
pub data Gives : Ty → Key → Doc → Ty → Under → Type 0 where
  of_object : {known : Known} {k : Key} {o : ObjectType} {d : Doc} {ty : Ty} → In known (properties o) → known.spelling ≡ k.name
      → Chooses known.type d ty → Gives (object_of o) k d ty unkeyed
  of_list : {ty ty' : Ty} {k : Key} {d : Doc} → Chooses ty d ty' → Gives (list_of ty) k d ty' unkeyed
  of_map : {keys : Keys} {ty ty' : Ty} {k : Key} {d : Doc} → Chooses ty d ty' → Gives (map_of keys ty) k d ty' (key keys k)

-- Among members, after some whose names are `passed`, stands a value under a key. So many values stand between the first of the members and it,
-- those inside others too.
pub data Among : (passed : List Name) → Members → (between : ℕ) → Key → Doc → Type 0 where
  first : {passed : List Name} {n : Name} {label : List ℕ} {d : Doc} {ms : Members}
      → Among passed (member n label d ms) 0 (record { name = n; before = passed }) d
  later : {passed : List Name} {m : Name} {k : Key} {label : List ℕ} {d e : Doc} {ms : Members} {between : ℕ}
      → Among (m ∷ passed) ms between k d → Among passed (member m label e ms) (count_of e + between) k d

-- In a card stands, on a row, a value of which a type is asked. Rows are counted parents first, in the order of the text. A value of the wrong kind
-- isn't entered.
pub data At (whole : Doc) : (row : ℕ) → Ty → Under → Doc → Type 0 where
  root : At whole 0 (object_of card) unkeyed whole
  inside : {row between : ℕ} {ty ty' : Ty} {u u' : Under} {v d : Doc} {k : Key}
      → At whole row ty u v → Suits ty (kind_of v) → Among [] (children_of v) between k d → Gives ty k d ty' u' → At whole (row + 1 + between) ty' u' d

-- ---- what a value breaks

-- 12: a mandatory member of its type isn't there; one of the wrong kind is
pub data Lacks : Ty → Members → Type 0 where
  lacks_one : {o : ObjectType} {ms : Members} {k : Known} → In k (properties o) → k.mandatory ≡ true → ((d : Doc) → ¬ HasMember ms k.spelling d)
      → Lacks (object_of o) ms

-- 13: a value that isn't allowed
pub data Unallowed : Ty → Doc → Type 0 where
  other_string : {n : Name} {v : Doc} → ¬ (content_of (token_of v) ≡ n) → Unallowed (simple (exactly n)) v
  not_true : {v : Doc} → ¬ (kind_of v ≡ 3) → Unallowed (simple yes) v
  no_count : {low high : ℕ} {v : Doc} → ¬ UnsignedInt low high (token_of v) → Unallowed (simple (count low high)) v
  no_time : {v : Doc} → ¬ UTCDateTime (content_of (token_of v)) → Unallowed (simple time) v

-- 13: a key that isn't allowed
pub data UnallowedKey : Under → Type 0 where
  no_id : {k : Key} → ¬ Id k.name → UnallowedKey (key ids k)

-- 14: a rule between its members is broken
pub data Unruly : Ty → Members → Type 0 where
  between : {o : ObjectType} {ms : Members} → BreaksBetween o ms → Unruly (object_of o) ms

-- the sheet's lines 11 to 14, of a value under a key, where a type is asked; a value of the wrong kind breaks 11 alone
pub data BreaksLine : (number : ℕ) → Ty → Under → Doc → Type 0 where
  kind : {ty : Ty} {u : Under} {v : Doc} → ¬ Suits ty (kind_of v) → BreaksLine 11 ty u v
  missing : {ty : Ty} {u : Under} {v : Doc} → Suits ty (kind_of v) → Lacks ty (children_of v) → BreaksLine 12 ty u v
  value : {ty : Ty} {u : Under} {v : Doc} → Suits ty (kind_of v) → Unallowed ty v → BreaksLine 13 ty u v
  badly_keyed : {ty : Ty} {u : Under} {v : Doc} → Suits ty (kind_of v) → UnallowedKey u → BreaksLine 13 ty u v
  rule : {ty : Ty} {u : Under} {v : Doc} → Suits ty (kind_of v) → Unruly ty (children_of v) → BreaksLine 14 ty u v

-- ---- what a card breaks

-- on a row of a card, a line of the sheet is broken
pub record RowBreaks (whole : Doc) (row number : ℕ) : Type 0 where
  pub type : Ty
  pub under : Under
  pub value : Doc
  pub stands : At whole row type under value
  pub broken : BreaksLine number type under value

-- nothing is broken anywhere
abbrev pub Keeps : Doc → Type 0
Keeps whole = (row number : ℕ) → ¬ RowBreaks whole row number

-- docs/RULES.md, 2.2: of 11 to 14, the earliest row wins, then the smaller number
pub record FirstBreach (whole : Doc) (row number : ℕ) : Type 0 where
  pub broken : RowBreaks whole row number
  pub earliest : (r n : ℕ) → RowBreaks whole r n → row ≤ r
  pub smallest : (n : ℕ) → RowBreaks whole row n → number ≤ n
