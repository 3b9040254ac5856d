-- Each rule between members (refusal 14; docs/RULES.md, 5.6) is in the table: for each of them an object that breaks it and no other of its type, and for
-- each type that has rules one that keeps them all. As one statement over a list of cases. Assumes nothing.
use Prim.Native.String.{String}
use Rattle.std.specs.Prelude.{◌≡◌, refl, List, [], ◌∷◌, map, Bool, true, false}
use Rattle.laws.specs.Tests.{any_mark, all_marks, adjacent}
use Rattle.laws.specs.Lists.{part_of}
use Rattle.laws.specs.Scan.{scan}
use Rattle.laws.specs.Order.{order_of}
use Rattle.text.specs.Chars.{digit_of, hex4_of, digit_at, hex4_at, checked_at, tail_of, seq2, seq3, seq4, tail_at, raw_at, letter_of, low_at, pair_at, unit_at, on_hex, escape_at, step_by}
use Rattle.text.specs.Strings.{piece_by, decode_from}
use Rattle.text.specs.Utf8.{conts, utf8}
use Rattle.text.specs.Text.{bytes}
use Rattle.text.specs.Doc.{Doc, scalar, array, object, Members, empty, member}
use Rattle.contact.specs.Schema.{ObjectType, types, record_of, type_in, card, name, address}
use Rattle.contact.specs.Rules.{present, is_string, is_separator, marks_of, any_counts, badly_separated, breaks_any, breaks}

-- ---- members

-- a member of that name before others, with a value
abbrev has : String → Doc → Members → Members
has n d ms = member (bytes n) [] d ms

-- the String of that token, and the value true
abbrev token : String → Doc
token s = scalar 5 (bytes s)

abbrev yes : Doc
yes = scalar 3 (bytes "true")

-- entries of a list: a separator, and another
abbrev separator : Members → Members
separator ms = member [] [] (object (has "kind" (token "\"separator\"") (has "value" (token "\" \"") empty))) ms

abbrev other : Members → Members
other ms = member [] [] (object (has "kind" (token "\"given\"") (has "value" (token "\"Ann\"") empty))) ms

-- a member `components` with such entries
abbrev components : Members → Members → Members
components entries ms = has "components" (array entries) ms

-- ---- cases

-- the members of an object of a type, and whether they break a rule
pub record RuleCase : Type 0 where
  pub type : ObjectType
  pub members : Members
  pub broken : Bool

abbrev breaking : ObjectType → Members → RuleCase
breaking o ms = record { type = o; members = ms; broken = true }

abbrev keeping : ObjectType → Members → RuleCase
keeping o ms = record { type = o; members = ms; broken = false }

-- what an Address and a Name have in common
abbrev separated : ObjectType → Members → List RuleCase → List RuleCase
separated o rest cases =
    keeping o (has "defaultSeparator" (token "\", \"") (has "isOrdered" yes (components (separator (other empty)) rest)))
    -- a separator in a list that isn't ordered
    ∷ breaking o (components (separator (other empty)) rest)
    -- two separators in a row
    ∷ breaking o (has "isOrdered" yes (components (separator (separator (other empty))) rest))
    -- `defaultSeparator` of a list that isn't ordered
    ∷ breaking o (has "defaultSeparator" (token "\", \"") (components (other empty) rest))
    -- and without a list
    ∷ breaking o (has "defaultSeparator" (token "\", \"") (has "isOrdered" yes rest))
    ∷ cases

unfoldable pub rule_cases : List RuleCase
rule_cases =
    -- a Card with `members` is a group
    keeping card (has "members" (object empty) (has "kind" (token "\"group\"") empty))
    ∷ breaking card (has "members" (object empty) (has "kind" (token "\"org\"") empty))
    ∷ breaking card (has "members" (object empty) empty)
    -- a Name has `full` or `components`
    ∷ keeping name (components (other empty) empty)
    ∷ breaking name empty
    -- and components that aren't all separators
    ∷ breaking name (has "isOrdered" yes (components (separator empty) empty))
    ∷ separated name (has "full" (token "\"Ann\"") empty) (separated address empty [])

-- what the tests say of each
unfoldable pub told : RuleCase → Bool
told c = breaks c.type c.members

pub rule_cases_lem : map told rule_cases ≡ map (λ (c : RuleCase). c.broken) rule_cases
unfolding told rule_cases part_of scan order_of digit_of hex4_of digit_at hex4_at checked_at tail_of seq2 seq3 seq4 tail_at raw_at letter_of low_at pair_at unit_at on_hex escape_at step_by piece_by decode_from conts utf8 types record_of type_in present is_string is_separator marks_of any_mark all_marks adjacent any_counts badly_separated breaks_any
rule_cases_lem = refl
