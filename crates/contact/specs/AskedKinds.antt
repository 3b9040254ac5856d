-- Which kind of JSON value each type asks (refusal 11; docs/RULES.md, 5.3 and 5.4), type by type and not by a test.
-- Kinds: 1 null, 2 false, 3 true, 4 number, 5 string, 6 array, 7 object. Null suits no listed type.
-- Assumes nothing: these are definitions.
use Rattle.std.specs.Prelude.{ℕ, ◌≡◌}
use Prim.Native.String.{String}
use mathlib.Core.List.{Memᴰ as In}
use Rattle.laws.specs.Each.{Each}
use Rattle.text.specs.Text.{bytes}
use Rattle.text.specs.Doc.{Name}
use Rattle.contact.specs.Schema.{ObjectType, SimpleType, any_string, exactly, flag, yes, count, time, Keys, Ty, any, simple, object_of, list_of, map_of, by_type, Known, Rule, properties, names_in, entries_in}

-- what a value may be in JSON that holds no others; null is asked for by no type
pub data Single : Type 0 where
  a_string a_number a_boolean : Single

-- and of which kinds it is then
pub data SingleKind : Single → (kind : ℕ) → Type 0 where
  string : SingleKind a_string 5
  number : SingleKind a_number 4
  off : SingleKind a_boolean 2
  on : SingleKind a_boolean 3

-- a value of the simple type may be of that kind
pub data SimpleKind : SimpleType → (kind : ℕ) → Type 0 where
  any_string_case : {kind : ℕ} → SingleKind a_string kind → SimpleKind any_string kind
  fixed : {n : Name} {kind : ℕ} → SingleKind a_string kind → SimpleKind (exactly n) kind
  utc : {kind : ℕ} → SingleKind a_string kind → SimpleKind time kind
  integer : {low high kind : ℕ} → SingleKind a_number kind → SimpleKind (count low high) kind
  boolean : {kind : ℕ} → SingleKind a_boolean kind → SimpleKind flag kind
  -- a value of a set, which false only breaks as a value
  in_set : {kind : ℕ} → SingleKind a_boolean kind → SimpleKind yes kind

-- a value of the type may be of that kind
pub data Suits : Ty → (kind : ℕ) → Type 0 where
  -- of an unknown property nothing is asked
  unknown : {kind : ℕ} → Suits any kind
  single : {l : SimpleType} {kind : ℕ} → SimpleKind l kind → Suits (simple l) kind
  list : {ty : Ty} → Suits (list_of ty) 6
  typed : {o : ObjectType} → Suits (object_of o) 7
  map : {keys : Keys} {ty : Ty} → Suits (map_of keys ty) 7
  one_of : {usual special : ObjectType} → Suits (by_type usual special) 7

-- a kind that the table asks of the property of that name in an object of that type: the name has a line, and the kind suits the line's type
pub record Tabled (o : ObjectType) (n : Name) (kind : ℕ) : Type 0 where
  pub line : Known
  pub listed : In line (properties o)
  pub named : line.spelling ≡ n
  pub suits : Suits line.type kind

-- the property of that name has a line in the object type's table
pub record HasLine (o : ObjectType) (n : String) : Type 0 where
  pub line : Known
  pub listed : In line (properties o)
  pub named : line.spelling ≡ bytes n

-- a rule counts names of its type's table alone, and looks for separators among entries whose `kind` is a String
pub record Sound (o : ObjectType) (r : Rule) : Type 0 where
  pub names : Each (HasLine o) (names_in r)
  pub kinds : Each (λ (entry : ObjectType). Tabled entry (bytes "kind") 5) (entries_in r)
