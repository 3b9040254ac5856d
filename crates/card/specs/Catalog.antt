-- The catalog as the code lends it: the known properties and the rules of all object types, each in one list, as words of one width and as numbers.
-- Assumes nothing: these are definitions.
use Rattle.std.specs.Prelude.{ℕ, zero, suc, ◌+◌, ◌-◌, ◌*◌, ◌/◌, ◌%◌, ◌≤◌, ◌<◌, ◌≡◌, List, [], ◌∷◌, ◌++◌, map, Bool, false, not, cond, ◌&&◌, length, get_or, take, drop, replicate, ltb, eqb}
use Rattle.text.specs.Text.{bytes, byte_at}
use Rattle.text.specs.Tree.{Forest}
use Rattle.text.specs.Firsts.{Kinds}
use Rattle.text.specs.Standing.{StandsTo}
use Rattle.text.specs.Doc.{Name, Members, seek, is_there}
use Rattle.contact.specs.Schema.{ObjectType, any, Known, Rule, one_of, needs, needs_string, needs_true, separators, not_only, TypeRecord, types}
use Rattle.card.specs.Types.{type_at}
use Rattle.card.specs.Rows.{ValueAt}
use Rattle.card.specs.declared.catalog.Span.{Span}
use Rattle.card.specs.declared.schema.Object.{Object}

-- the rows of an object's members stand in a table
abbrev pub MembersAt : (table : List ℕ) → Object → Forest → Type 0
MembersAt table object f = StandsTo table object.from object.end f

-- ---- words

-- the bytes for each word
abbrev pub name_width : ℕ
name_width = 20

-- words with spaces after them, each of the width
abbrev pub padded : List Name → List ℕ
padded [] = []
padded (s ∷ ss) = s ++ replicate (name_width - length s) 32 ++ padded ss

-- ---- what the types have, in one list

-- what some types have, one after the other
unfoldable pub gathered : {A : Type 0} → (TypeRecord → List A) → List TypeRecord → List A
gathered part [] = []
gathered part (r ∷ rs) = part r ++ gathered part rs

-- how much those before a type have together, which is where its own begins
unfoldable pub start_of : {A : Type 0} → (TypeRecord → List A) → List TypeRecord → ObjectType → ℕ
start_of part [] o = 0
start_of part (r ∷ rs) zero = 0
start_of part (r ∷ rs) (suc o) = length (part r) + start_of part rs o

-- in a list of all, what one type has stands from a place up to another
pub record OwnPart {A : Type 0} (all own : List A) (d : A) (first last : ℕ) : Type 0 where
  pub size : last ≡ first + length own
  pub within : last ≤ length all
  pub is : (j : ℕ) → j < length own → get_or all (first + j) d ≡ get_or own j d

-- the code counts the types too
abbrev pub type_count : ℕ
type_count = 7

-- the place of a type; those without a record have the one behind the last
abbrev pub name_place : ObjectType → ℕ
name_place o = cond (ltb type_count o) type_count o

-- the two starts that stand for a type, in the list of starts from a place on
abbrev pub span_in : List ℕ → (starts : ℕ) → ObjectType → Span
span_in numbers starts o =
    record { first = get_or numbers (starts + name_place o) 0; last = get_or numbers (starts + name_place o + 1) 0 }

-- ---- properties

-- all of them, in the order of the types' numbers
unfoldable pub lines : List Known
lines = gathered (λ r. r.known) types

-- what stands behind the last one
abbrev pub no_line : Known
no_line = record { spelling = []; type = any; mandatory = false }

-- the code counts them too, and a law says that they agree
abbrev pub count : ℕ
count = 53

-- a mandatory property that is not among the members
abbrev pub is_missing : Members → Known → Bool
is_missing ms k = k.mandatory && not (is_there (seek k.spelling ms))

-- the number that says all of a property but the letters of its name
pub record CodeOf (code : ℕ) (k : Known) : Type 0 where
  pub size : code / 65536 ≡ length k.spelling
  pub must : eqb (code / 32768 % 2) 1 ≡ k.mandatory
  pub type : type_at code ≡ k.type

-- ---- rules

-- all of them, in the order of the types' numbers
unfoldable pub all_rules : List Rule
all_rules = gathered (λ r. r.rules) types

-- what stands behind the last one
abbrev pub no_rule : Rule
no_rule = one_of []

-- the code counts them too, and a law says that they agree
abbrev pub rule_count : ℕ
rule_count = 9

-- the number of a rule's shape
abbrev pub shape_of : Rule → ℕ
shape_of (one_of ns) = 0
shape_of (needs n ns) = 1
shape_of (needs_string n m content) = 2
shape_of (needs_true n m) = 3
shape_of (separators list order entry) = 4
shape_of (not_only list entry) = 5

-- its words
abbrev pub rule_words : Rule → List Name
rule_words (one_of ns) = map bytes ns
rule_words (needs n ns) = bytes n ∷ map bytes ns
rule_words (needs_string n m content) = bytes n ∷ bytes m ∷ bytes content ∷ []
rule_words (needs_true n m) = bytes n ∷ bytes m ∷ []
rule_words (separators list order entry) = bytes list ∷ bytes order ∷ []
rule_words (not_only list entry) = bytes list ∷ []

-- the rule with that number
abbrev pub rule_at : ℕ → Rule
rule_at i = get_or all_rules i no_rule

-- ---- the lists that are lent

-- words of the rules that no property has
abbrev pub further_words : List Name
further_words = bytes "group" ∷ []

-- the code counts them too
abbrev pub further_count : ℕ
further_count = 1

-- the types' names begin behind the properties' and these
abbrev pub type_words_from : ℕ
type_words_from = count + further_count

-- all words: the properties' names, further ones, the types' names
unfoldable pub table_words : List ℕ
table_words = padded (map (λ (k : Known). k.spelling) lines ++ further_words ++ map (λ (r : TypeRecord). bytes r.own) types)

-- behind the properties' numbers stand the starts of the types' properties
abbrev pub line_starts : ℕ
line_starts = count

-- behind those the starts of their rules
abbrev pub rule_starts : ℕ
rule_starts = line_starts + type_count + 2

-- and last the rules' numbers
abbrev pub rules_from : ℕ
rules_from = rule_starts + type_count + 2

-- the most words of a rule
abbrev pub each : ℕ
each = 3

-- for each rule its shape and its words
abbrev pub rule_width : ℕ
rule_width = 1 + each

-- the number that says how long a word is and where it stands
pub record WordBy (n : ℕ) (w : Name) : Type 0 where
  pub fits : n % 65536 * name_width + n / 65536 ≤ (type_words_from + type_count) * name_width
  pub is : take (n / 65536) (drop (n % 65536 * name_width) table_words) ≡ w

-- these are the catalog's numbers
pub record Numbers (numbers : List ℕ) : Type 0 where
  pub long : length numbers ≡ rules_from + rule_count * rule_width
  pub code : (i : ℕ) → i < count → CodeOf (get_or numbers i 0) (get_or lines i no_line)
  pub line_start_is : (o : ObjectType) → o < type_count + 2 → get_or numbers (line_starts + o) 0 ≡ start_of (λ r. r.known) types o
  pub rule_start_is : (o : ObjectType) → o < type_count + 2 → get_or numbers (rule_starts + o) 0 ≡ start_of (λ r. r.rules) types o
  pub shape : (i : ℕ) → i < rule_count → get_or numbers (rules_from + i * rule_width) 0 ≡ shape_of (rule_at i)
  pub word : (i : ℕ) → i < rule_count → (j : ℕ) → j < each → WordBy (get_or numbers (rules_from + i * rule_width + 1 + j) 0) (get_or (rule_words (rule_at i)) j [])

-- what is lent is the catalog
pub record Lent (words numbers : List ℕ) : Type 0 where
  pub words_are : words ≡ table_words
  pub numbers_are : Numbers numbers

-- ---- what is asked where the catalog is put to a card

-- of an object: the catalog is lent, and the object's members stand in the table
abbrev pub OnObject : (words numbers table : List ℕ) → Object → Type 0
OnObject words numbers table object = Lent words numbers × ((f : Forest) × MembersAt table object f)

-- of a value: the catalog is lent, and a value stands at the row
abbrev pub OnValue : (words numbers table : List ℕ) (row : ℕ) → Type 0
OnValue words numbers table row = Lent words numbers × ((f : Forest) × ValueAt table row f)

-- of a value and all that is below it, where a row's kind tells whether it holds others
abbrev pub OnWhole : (words numbers table : List ℕ) (row : ℕ) → Type 0
OnWhole words numbers table row = Lent words numbers × ((f : Forest) × ValueAt table row f × Kinds f)

-- of property i: the catalog is lent, and has it
abbrev pub TriesLine : (words numbers : List ℕ) (i : ℕ) → Type 0
TriesLine words numbers i = Lent words numbers × (i < count)

-- the same, of a name whose first written byte is known
abbrev pub TriesName : (words numbers : List ℕ) (i : ℕ) (text : List ℕ) (s first : ℕ) → Type 0
TriesName words numbers i text s first = TriesLine words numbers i × (first ≡ byte_at text s)

-- of word j of rule i: the catalog is lent, and has room for it
abbrev pub TriesWord : (words numbers : List ℕ) (i j : ℕ) → Type 0
TriesWord words numbers i j = Lent words numbers × (i < rule_count) × (j < each)

-- of rule i on an object
pub record TriesRule (words numbers table : List ℕ) (object : Object) (i : ℕ) : Type 0 where
  pub on : OnObject words numbers table object
  pub rule : i < rule_count
