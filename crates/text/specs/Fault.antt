-- What it means that a text has a fault of a number at a place: each of 2 to 6 by itself, over texts of the grammar that begin as the text does,
-- limits, names and the rules of spelling aside. The refusal is the fault of the smallest place, then of the smaller number (`FirstFault`). At the end
-- how a text is refused for a lent table, 1 and 7 too (`Unreadable`).
-- Assumes nothing: these are definitions.
use Rattle.std.specs.Prelude.{ℕ, ◌+◌, ◌*◌, ◌≤◌, ◌<◌, ◌≡◌, List, ◌++◌, true, length, take, drop}
use Rattle.laws.specs.Lists.{part_of}
use Rattle.text.specs.Limits.{Limits, row_words}
use Rattle.text.specs.Text.{byte_at}
use Rattle.text.specs.Spelling.{Spells}
use Rattle.text.specs.Broken.{Ill}
use Rattle.text.specs.Forest.{Forest, size}
use Rattle.text.specs.Placed.{Quoted}
use Rattle.text.specs.Grammar.{JsonText, root_of}
use Rattle.text.specs.Seats.{Head, Seat, top, Sits, Named}
use Rattle.text.specs.Meaning.{Accepts}
use Rattle.text.specs.Sheet.{numbers, refused}
use Rattle.text.specs.declared.Refusal.{Refusal}
use Rattle.text.specs.declared.Refusal.TheVariants.{TooLong, Small}

-- some text of the grammar begins with the first p bytes
pub record Begins (t : List ℕ) (p : ℕ) : Type 0 where
  pub rest : List ℕ
  pub is : JsonText (take p t ++ rest)

-- 2: it is not RFC 8259's grammar; the place is the first byte that can't continue, or the text's length where it ends early.
-- So the first p bytes begin a text of the grammar; the first p + 1 begin none, or the text is over and is none
pub record NotGrammar (t : List ℕ) (p : ℕ) : Type 0 where
  pub within : p ≤ length t
  pub begins : Begins t p
  pub no_further : p < length t → Begins t (p + 1) → ⊥
  pub no_end : p ≡ length t → JsonText t → ⊥

-- a string of this value has its opening quote at j: the value itself, or its name
pub data StringAt (h : Head) : (j : ℕ) → Type 0 where
  value : h.kind ≡ 5 → StringAt h h.from
  name : {j : ℕ} → h.ns ≡ j + 1 → StringAt h j

-- the value h, which stands at the seat d, breaks one of the rules 3 to 6 at a place
pub data ValueBreaks (L : Limits) (t : List ℕ) (d : Seat) (h : Head) : (number place : ℕ) → Type 0 where
  -- 3: ill-formed UTF-8, a lone surrogate or a noncharacter; the place is the first byte of that sequence or escape.
  -- So in a string that opens at j, behind characters that are spelled: bytes that aim at a character and spell none
  character : {j p : ℕ} {codes : List ℕ} → StringAt h j → byte_at t j ≡ 0x22 → j < p → Spells (part_of t (j + 1) p) codes → Ill (drop p t)
      → ValueBreaks L t d h 3 p
  -- 4: the object has a member of that name already, compared decoded; the place is the opening quote of the later name.
  -- The name is closed, and counts whatever follows it. The other name spells too: one that does not breaks 3 at a smaller place, which comes first
  repeated : {p e : ℕ} {codes : List ℕ} → L.unique ≡ true → h.ns ≡ p + 1 → Quoted t (p + 1) e → Spells (part_of t (p + 1) e) codes → Named t codes d.beside
      → ValueBreaks L t d h 4 p
  -- 5: one array or object too many is open; the place is its bracket. So it stands inside as many others as may be open at once
  deep : h.holds ≡ true → d.inside ≡ L.depth → ValueBreaks L t d h 5 h.from
  -- 6: one value too many; the place is its first byte. So it stands after as many others as there may be
  many : d.after ≡ L.values → ValueBreaks L t d h 6 h.from

-- some value of the tree f breaks the rule n at p
pub record TreeBreaks (L : Limits) (t : List ℕ) (f : Forest) (n p : ℕ) : Type 0 where
  pub seat : Seat
  pub head : Head
  pub there : Sits top f seat head
  pub breaks : ValueBreaks L t seat head n p

-- 3 to 6: some text of the grammar begins with the first p bytes and the byte at p, and a value of it breaks the rule at p
pub record Violated (L : Limits) (t : List ℕ) (n p : ℕ) : Type 0 where
  pub within : p < length t
  pub rest : List ℕ
  pub is : JsonText (take (p + 1) t ++ rest)
  pub broken : TreeBreaks L t (root_of is) n p

-- a fault of any of 2 to 6: 2 by the grammar, 3 to 6 by a value
pub data FaultAt (L : Limits) (t : List ℕ) : (number place : ℕ) → Type 0 where
  grammar : {p : ℕ} → NotGrammar t p → FaultAt L t 2 p
  violated : {n p : ℕ} → Violated L t n p → FaultAt L t n p

-- not only in some text of the grammar that goes on so, but in each, a value breaks the rule at p
abbrev pub InEach : Limits → List ℕ → (number place : ℕ) → Type 0
InEach L t n p = (rest : List ℕ) (d : JsonText (take (p + 1) t ++ rest)) → TreeBreaks L t (root_of d) n p

-- of such faults the one of the smallest place, and at one place the one of the smaller number
pub record First (F : (number place : ℕ) → Type 0) (n p : ℕ) : Type 0 where
  pub fault : F n p
  pub no_earlier : (m q : ℕ) → F m q → q < p → ⊥
  pub no_smaller : (m : ℕ) → F m p → m < n → ⊥

-- the first fault of a text, of 2 to 6: the one that the sheet's order picks
abbrev pub FirstFault : Limits → List ℕ → (number place : ℕ) → Type 0
FirstFault L t = First (FaultAt L t)

-- the first one of a text of the grammar with the tree f: there each fault is a rule that a value of the tree breaks
abbrev pub FirstBreak : Limits → List ℕ → Forest → (number place : ℕ) → Type 0
FirstBreak L t f = First (TreeBreaks L t f)

-- 7: t would be accepted, but it has n values, and a table of so many words has fewer whole rows
pub record RowsShort (L : Limits) (words : ℕ) (t : List ℕ) (n : ℕ) : Type 0 where
  pub tree : Forest
  pub accepts : Accepts L t tree
  pub short : words < row_words * size tree
  pub needed : n ≡ size tree

-- a text is refused, for a table of so many words, with this refusal
pub data Unreadable (L : Limits) (words : ℕ) (t : List ℕ) : Refusal → Type 0 where
  -- 1 comes first: it has more bytes than a text may have
  long : L.bytes < length t → Unreadable L words t TooLong
  -- then 2 to 6: its first fault, by the refusal that has its numbers on the sheet
  faulty : {r : Refusal} {n p : ℕ} → length t ≤ L.bytes → FirstFault L t n p → refused r ≡ numbers n p 0 → Unreadable L words t r
  -- then 7
  short : {n : ℕ} → RowsShort L words t n → Unreadable L words t (Small n)
