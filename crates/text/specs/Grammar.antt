-- The grammar of RFC 8259 over lists of bytes, rule by rule from its ABNF, and the tree that a derivation describes. No place, no limit and no
-- reader is named in the rules. White space stands here behind the bytes that it may follow; specs/Rfc.antt has it as the RFC arranges it.
--     JSON-text = ws value ws
--     value     = false / null / true / object / array / number / string
--     array     = "[" ws [ value ws *( "," ws value ws ) ] "]"
--     object    = "{" ws [ member ws *( "," ws member ws ) ] "}"
--     member    = string ws ":" ws value
-- docs/RULES.md, 3.2. Assumes nothing: these are definitions.
use Rattle.std.specs.Prelude.{ℕ, suc, ◌+◌, ◌-◌, max, List, [], ◌∷◌, ◌++◌, length}
use Rattle.text.specs.Text.{bytes}
use Rattle.text.specs.Spelling.{FourDigits, Short}
use Rattle.text.specs.Abnf.{Byte, Between, Just, Exactly, Seq, Or, Opt, Star}
use Rattle.text.specs.Forest.{Bracket, square, curly, Forest, none, leaf, node, join}

-- ---- section 2: white space

-- %x20 / %x09 / %x0A / %x0D
pub data Blank : ℕ → Type 0 where
  space : Blank 0x20
  tab : Blank 0x09
  line_feed : Blank 0x0A
  return : Blank 0x0D

-- ws = *( %x20 / %x09 / %x0A / %x0D )
abbrev pub Ws : List ℕ → Type 0
Ws = Star (Byte Blank)

-- ---- section 6: numbers

-- DIGIT = %x30-39
abbrev pub Digit : List ℕ → Type 0
Digit = Byte (Between 0x30 0x39)

-- 1*DIGIT
abbrev pub Digits : List ℕ → Type 0
Digits = Seq Digit (Star Digit)

-- int = zero / ( digit1-9 *DIGIT )
abbrev pub Int : List ℕ → Type 0
Int = Or (Just 0x30) (Seq (Byte (Between 0x31 0x39)) (Star Digit))

-- frac = decimal-point 1*DIGIT
abbrev pub Frac : List ℕ → Type 0
Frac = Seq (Just 0x2E) Digits

-- e = %x65 / %x45
pub data E : ℕ → Type 0 where
  small : E 0x65
  capital : E 0x45

-- minus / plus
pub data Sign : ℕ → Type 0 where
  minus : Sign 0x2D
  plus : Sign 0x2B

-- exp = e [ minus / plus ] 1*DIGIT
abbrev pub Exp : List ℕ → Type 0
Exp = Seq (Byte E) (Seq (Opt (Byte Sign)) Digits)

-- number = [ minus ] int [ frac ] [ exp ]
abbrev pub Number : List ℕ → Type 0
Number = Seq (Seq (Seq (Opt (Just 0x2D)) Int) (Opt Frac)) (Opt Exp)

-- ---- section 7: strings; the letters of escapes and HEXDIG are those of specs/Spelling.antt

-- unescaped = %x20-21 / %x23-5B / %x5D-10FFFF; of a code point above 7F the grammar takes any bytes, since UTF-8 is asked apart (specs/Spelling.antt)
pub data Unescaped : ℕ → Type 0 where
  low : {x : ℕ} → Between 0x20 0x21 x → Unescaped x
  middle : {x : ℕ} → Between 0x23 0x5B x → Unescaped x
  high : {x : ℕ} → Between 0x5D 0xFF x → Unescaped x

-- char = unescaped / escape ( %x22 / .. / %x74 / %x75 4HEXDIG ); what an escape stands for is not asked here
pub data JsonChar : List ℕ → Type 0 where
  unescaped : {x : ℕ} → Unescaped x → JsonChar (x ∷ [])
  escape : {x code : ℕ} → Short x code → JsonChar (0x5C ∷ x ∷ [])
  unicode : {w : List ℕ} {code : ℕ} → FourDigits w code → JsonChar (0x5C ∷ 0x75 ∷ w)

-- string = quotation-mark *char quotation-mark
pub data JsonString : List ℕ → Type 0 where
  quoted : {w : List ℕ} → Star JsonChar w → JsonString (0x22 ∷ w ++ 0x22 ∷ [])

-- ---- section 3: the values that hold no others

-- null, false, true, a number, a string
pub data Simple : Type 0 where
  nothing falsity truth numeral string : Simple

-- their kinds in a row
abbrev pub simple_kind : Simple → ℕ
simple_kind nothing = 1
simple_kind falsity = 2
simple_kind truth = 3
simple_kind numeral = 4
simple_kind string = 5

-- the bytes are such a value
abbrev pub IsSimple : Simple → List ℕ → Type 0
IsSimple nothing = Exactly (bytes "null")
IsSimple falsity = Exactly (bytes "false")
IsSimple truth = Exactly (bytes "true")
IsSimple numeral = Number
IsSimple string = JsonString

-- ---- sections 2 to 5: values, arrays and objects

-- begin-array and begin-object
abbrev pub opening : Bracket → ℕ
opening square = 0x5B
opening curly = 0x7B

-- end-array and end-object
abbrev pub closing : Bracket → ℕ
closing square = 0x5D
closing curly = 0x7D

-- an item of an array is a value, one of an object is a member; items have commas between them
pub data Phrase : Type 0 where
  value : Phrase
  item items : Bracket → Phrase

-- the bytes are such a part
pub data Is : Phrase → List ℕ → Type 0 where
  simple : {w : List ℕ} (k : Simple) → IsSimple k w → Is value w
  empty : {s : List ℕ} (b : Bracket) → Ws s → Is value (opening b ∷ s ++ closing b ∷ [])
  full : {s w : List ℕ} (b : Bracket) → Ws s → Is (items b) w → Is value (opening b ∷ s ++ (w ++ closing b ∷ []))
  element : {w : List ℕ} → Is value w → Is (item square) w
  member : {m s r w : List ℕ} → JsonString m → Ws s → Ws r → Is value w → Is (item curly) (m ++ (s ++ 0x3A ∷ (r ++ w)))
  one : {v s : List ℕ} {b : Bracket} → Is (item b) v → Ws s → Is (items b) (v ++ s)
  comma : {v s r w : List ℕ} {b : Bracket} → Is (item b) v → Ws s → Ws r → Is (items b) w → Is (items b) (v ++ (s ++ 0x2C ∷ (r ++ w)))

-- JSON-text = ws value ws
pub data JsonText : List ℕ → Type 0 where
  json_text : {s w r : List ℕ} → Ws s → Is value w → Ws r → JsonText (s ++ (w ++ r))

-- ---- the tree of a derivation

-- The values of a part whose first byte is at a place, each from its own first byte up to the place after its last. A value has the name whose places
-- are handed in: for a member those of its name, for an element 0 and 0.
unfoldable pub tree_of : {a : Phrase} {w : List ℕ} → Is a w → (ns ne at : ℕ) → Forest
tree_of (simple {w} k l) ns ne at = leaf (simple_kind k) ns ne at (at + length w) none
tree_of (empty {s} b p) ns ne at = node b ns ne at (at + length s + 2) none none
tree_of (full {s} {w} b p d) ns ne at = node b ns ne at (at + length s + length w + 2) (tree_of d 0 0 (at + 1 + length s)) none
tree_of (element d) ns ne at = tree_of d 0 0 at
tree_of (member {m} {s} {r} g p o d) ns ne at = tree_of d (at + 1) (at + length m - 1) (at + length m + length s + 1 + length r)
tree_of (one d p) ns ne at = tree_of d 0 0 at
tree_of (comma {v} {s} {r} d p o e) ns ne at = join (tree_of d 0 0 at) (tree_of e 0 0 (at + length v + length s + 1 + length r))

-- the tree of a text; its root has no name
unfoldable pub root_of : {t : List ℕ} → JsonText t → Forest
root_of (json_text {s} p d o) = tree_of d 0 0 (length s)

-- how many containers stand one inside the other, at the most
unfoldable pub depth_of : Forest → ℕ
depth_of none = 0
depth_of (leaf kind ns ne from to rest) = depth_of rest
depth_of (node b ns ne from to inside rest) = max (suc (depth_of inside)) (depth_of rest)
