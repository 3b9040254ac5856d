-- The rules between members (refusal 14; docs/RULES.md, 5.6) by tests, one for each shape of rule. A member of the wrong kind counts as absent.
-- Assumes nothing: these are definitions.
use Prim.Native.String.{String}
use Rattle.std.specs.Prelude.{List, [], ◌∷◌, Bool, true, false, not, cond, ◌&&◌, ◌||◌, eqb}
use Rattle.std.proofs.Math.Option.{Option, none, some}
use Rattle.text.specs.Text.{bytes}
use Rattle.laws.specs.Order.{same}
use Rattle.laws.specs.Tests.{any_mark, all_marks, adjacent}
use Rattle.text.specs.Strings.{content_of}
use Rattle.text.specs.Doc.{Name, Doc, Members, empty, member, kind_of, token_of, children_of, Property, seek, is_there}
use Rattle.contact.specs.Schema.{ObjectType, Ty, Rule, one_of, needs, needs_string, needs_true, separators, not_only, properties, rules_of, type_in, fits}

-- ---- members that count

-- a value of the wrong kind counts as absent
abbrev pub if_fits : Ty → Option Property → Option Doc
if_fits ty none = none
if_fits ty (some p) = cond (fits ty (kind_of p.content)) (some p.content) none

-- the member of that name, if its kind is the one that the table asks
unfoldable pub present : ObjectType → Name → Members → Option Doc
present o n ms = if_fits (type_in (properties o) n) (seek n ms)

-- the value true
abbrev pub is_true : Option Doc → Bool
is_true none = false
is_true (some d) = eqb (kind_of d) 3

-- a String with that content
unfoldable pub is_string : Name → Doc → Bool
is_string n d = let content = same (content_of (token_of d)) n in cond (eqb (kind_of d) 5) content false

-- there, and a String with that content
abbrev pub is_this_string : Name → Option Doc → Bool
is_this_string n none = false
is_this_string n (some d) = is_string n d

-- ---- separators

-- the property `kind` is there, and is a String with that content
abbrev pub has_kind : Name → Option Property → Bool
has_kind n none = false
has_kind n (some p) = is_string n p.content

-- an entry whose `kind` is the String "separator"; an entry without a String `kind` isn't one
unfoldable pub is_separator : Doc → Bool
is_separator d = let found = has_kind (bytes "separator") (seek (bytes "kind") (children_of d)) in cond (eqb (kind_of d) 7) found false

-- one mark for each entry of a list: is it a separator?
unfoldable pub marks_of : Members → List Bool
marks_of empty = []
marks_of (member n label d ms) = is_separator d ∷ marks_of ms

-- the marks of a list; none where there is no list
abbrev pub marks : Option Doc → List Bool
marks none = []
marks (some list) = marks_of (children_of list)

-- ---- the rules

-- there is a member of that name, of the kind that the table asks
abbrev pub counts : ObjectType → Members → String → Bool
counts o ms n = is_there (present o (bytes n) ms)

-- one of those names has a member
unfoldable pub any_counts : ObjectType → Members → List String → Bool
any_counts o ms [] = false
any_counts o ms (n ∷ ns) = counts o ms n || any_counts o ms ns

-- by the marks of a list: two separators stand in a row, or there is one and the list isn't ordered
unfoldable pub badly_separated : (marks : List Bool) → (ordered : Bool) → Bool
badly_separated ms ordered = adjacent ms || (any_mark ms && not ordered)

-- the members of an object of that type break a rule
abbrev pub breaks_one : ObjectType → Members → Rule → Bool
breaks_one o ms (one_of ns) = not (any_counts o ms ns)
breaks_one o ms (needs n ns) = counts o ms n && not (any_counts o ms ns)
breaks_one o ms (needs_string n m content) = counts o ms n && not (is_this_string (bytes content) (present o (bytes m) ms))
breaks_one o ms (needs_true n m) = counts o ms n && not (is_true (present o (bytes m) ms))
breaks_one o ms (separators n order entry) = badly_separated (marks (present o (bytes n) ms)) (is_true (present o (bytes order) ms))
breaks_one o ms (not_only n entry) = counts o ms n && all_marks (marks (present o (bytes n) ms))

-- they break one of some rules
unfoldable pub breaks_any : ObjectType → Members → List Rule → Bool
breaks_any o ms [] = false
breaks_any o ms (r ∷ rs) = let more = breaks_any o ms rs in cond (breaks_one o ms r) true more

-- they break a rule of the type
abbrev pub breaks : ObjectType → Members → Bool
breaks o ms = breaks_any o ms (rules_of o)
