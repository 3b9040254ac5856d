-- The packing of a document: tagged fields. 12: "a one-byte tag, a two-byte length with the high byte first, then content. Tags 1 to 7 are the row
-- kinds; tag 8 is a member name, which comes before its value. Strings and names hold decoded UTF-8, numbers their digits as written, arrays and
-- objects their fields in order; null, false and true are empty." Assumes nothing: these are definitions.
use Rattle.std.specs.Prelude.{ℕ, ◌/◌, ◌%◌, max, List, [], ◌∷◌, ◌++◌, cond, length, eqb}
use Rattle.text.specs.Strings.{content_of}
use Rattle.text.specs.Tree.{Bracket, square, curly}
use Rattle.text.specs.Doc.{Name, Doc, scalar, array, object, Members, empty, member}

-- a field: its tag, the length of its content in two bytes, the high one first, and its content
abbrev pub field_of : (tag : ℕ) → (content : List ℕ) → List ℕ
field_of tag content = tag ∷ (length content / 256) ∷ (length content % 256) ∷ content

-- the content of a value that holds no others: a string's decoded bytes, a number as written, and nothing for null, false and true
abbrev pub content_in : (kind : ℕ) → (token : List ℕ) → List ℕ
content_in kind token = cond (eqb kind 5) (content_of token) (cond (eqb kind 4) token [])

-- before a member's value stands its name, and before an entry of an array nothing
abbrev pub name_field : Bracket → Name → List ℕ
name_field square n = []
name_field curly n = field_of 8 n

abbrev mutual
  -- the packing of a document
  pub packed : Doc → List ℕ
  packed (scalar kind token) = field_of kind (content_in kind token)
  packed (array ms) = field_of 6 (packed_items ms square)
  packed (object ms) = field_of 7 (packed_items ms curly)

  -- what stands inside a container, one item after the other
  pub packed_items : Members → Bracket → List ℕ
  packed_items empty b = []
  packed_items (member n label d ms) b = name_field b n ++ (packed d ++ packed_items ms b)

-- the length of a name's content; an entry of an array has none
abbrev pub name_length : Bracket → Name → ℕ
name_length square n = 0
name_length curly n = length n

unfoldable mutual
  -- the length of the longest content in a document, its own, those of its names and those inside it
  pub widest : Doc → ℕ
  widest (scalar kind token) = length (content_in kind token)
  widest (array ms) = max (length (packed_items ms square)) (widest_item ms square)
  widest (object ms) = max (length (packed_items ms curly)) (widest_item ms curly)

  -- in some items
  pub widest_item : Members → Bracket → ℕ
  widest_item empty b = 0
  widest_item (member n label d ms) b = max (name_length b n) (max (widest d) (widest_item ms b))

-- 12: content over 65,535 bytes is refused; that is what two bytes can say
abbrev pub widest_allowed : ℕ
widest_allowed = 65535

-- the bytes of a head, and of the longest packing: such a content and its head
abbrev pub head_size : ℕ
head_size = 3

abbrev pub longest : ℕ
longest = 65538
