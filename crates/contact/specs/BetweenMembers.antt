-- The rules between members (refusal 14; docs/RULES.md, 5.6): how an object breaks one, by what the rule says and not by a test.
-- Assumes nothing: these are definitions.
use Rattle.std.specs.Prelude.{ℕ, ◌≡◌}
use Prim.Native.String.{String}
use mathlib.Core.List.{List, [], ◌∷◌, Memᴰ as In}
use Rattle.laws.specs.Each.{Each, Some, Neighbours}
use Rattle.text.specs.Text.{bytes}
use Rattle.text.specs.Strings.{content_of}
use Rattle.text.specs.Doc.{Name, Doc, scalar, object, Members, empty, member, Property, property, kind_of, children_of}
use Rattle.contact.specs.Schema.{ObjectType, Rule, one_of, needs, needs_string, needs_true, rules_of}
use Rattle.contact.specs.Schema as S
use Rattle.contact.specs.AskedKinds.{Tabled}

-- ---- members

-- the member of a name, by its name as written and its value; reading sees to it that no other has the name, and where one has, the first is meant
pub data HasProperty : Members → Name → Property → Type 0 where
  here : {n : Name} {label : List ℕ} {d : Doc} {ms : Members} → HasProperty (member n label d ms) n (property label d)
  later : {m n : Name} {label : List ℕ} {d : Doc} {s : Property} {ms : Members} → ¬ (m ≡ n) → HasProperty ms n s → HasProperty (member m label d ms) n s

-- the same by its value, however its name is written
abbrev pub HasMember : Members → Name → Doc → Type 0
HasMember ms n d = (label : List ℕ) × HasProperty ms n (property label d)

-- a member that counts: the table has it, and its kind is the one that the table asks, for a member of the wrong kind counts as absent
pub record Counts (o : ObjectType) (ms : Members) (n : String) (d : Doc) : Type 0 where
  pub has : HasMember ms (bytes n) d
  pub suits : Tabled o (bytes n) (kind_of d)

-- no member of that name counts
abbrev pub Absent : ObjectType → Members → String → Type 0
Absent o ms n = (d : Doc) → ¬ Counts o ms n d

-- a String with that content
pub data IsString (content : String) : Doc → Type 0 where
  string : {token : List ℕ} → content_of token ≡ bytes content → IsString content (scalar 5 token)

-- no member of that name counts that is true
abbrev pub Untrue : ObjectType → Members → String → Type 0
Untrue o ms n = (d : Doc) → Counts o ms n d → ¬ (kind_of d ≡ 3)

-- ---- separators

-- an entry of that type whose `kind` is the String "separator"; an entry without a String `kind` isn't one
pub data Separator (o : ObjectType) : Doc → Type 0 where
  separator : {ms : Members} {kind : Doc} → Counts o ms "kind" kind → IsString "separator" kind → Separator o (object ms)

-- the entries of a list
unfoldable pub elements : Members → List Doc
elements empty = []
elements (member n label d ms) = d ∷ elements ms

-- ---- how the rules are broken

-- how the members of an object of that type break a rule
pub data Broken (o : ObjectType) (ms : Members) : Rule → Type 0 where
  -- none of them is there
  none_there : {ns : List String} → Each (Absent o ms) ns → Broken o ms (one_of ns)
  -- the first is there, and none of the others
  alone : {n : String} {ns : List String} {d : Doc} → Counts o ms n d → Each (Absent o ms) ns → Broken o ms (needs n ns)
  -- the first is there, and the other isn't a String with that content
  other_content : {n m content : String} {d : Doc} → Counts o ms n d → ((k : Doc) → Counts o ms m k → ¬ IsString content k)
      → Broken o ms (needs_string n m content)
  -- the first is there, and the other isn't true
  not_so : {n m : String} {d : Doc} → Counts o ms n d → Untrue o ms m → Broken o ms (needs_true n m)
  -- two separator entries stand in a row
  in_a_row : {n order : String} {entry : ObjectType} {list : Doc} → Counts o ms n list → Neighbours (Separator entry) (elements (children_of list))
      → Broken o ms (S.separators n order entry)
  -- there is a separator entry, and what orders the list isn't true
  unordered : {n order : String} {entry : ObjectType} {list : Doc} → Counts o ms n list → Some (Separator entry) (elements (children_of list))
      → Untrue o ms order → Broken o ms (S.separators n order entry)
  -- a list is there, and has no entry that isn't a separator
  only_separators : {n : String} {entry : ObjectType} {list : Doc} → Counts o ms n list → Each (Separator entry) (elements (children_of list))
      → Broken o ms (S.not_only n entry)

-- a rule of the type is broken
pub record BreaksBetween (o : ObjectType) (ms : Members) : Type 0 where
  pub rule : Rule
  pub listed : In rule (rules_of o)
  pub broken : Broken o ms rule
