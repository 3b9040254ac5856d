-- What is said of a text as a card, in words alone (`CardAnswer`), and what is shown of judging, as one statement: `Judging`. proofs/Judging.antt proves it.
-- Assumes nothing: these are definitions.
use Rattle.std.specs.Prelude.{Result}
use Rattle.contact.specs.declared.CardRefusal.{CardRefusal}
use Rattle.std.specs.Prelude.{ℕ, ◌<◌, ◌≡◌, true, List, [], ◌↔◌, length}
use Rattle.laws.specs.Lists.{filled}
use Rattle.text.specs.Limits.{Limits}
use Rattle.text.specs.Tree.{Forest, size, tree_rows}
use Rattle.text.specs.Seats.{Head, leaf_head, Seat, top, Sits}
use Rattle.text.specs.Meaning.{Readable}
use Rattle.text.specs.Fault.{Unreadable}
use Rattle.text.specs.Telling.{Stretch, Tells}
use Rattle.text.specs.Reader.{good}
use Rattle.text.specs.declared.Paper.{Paper}
use Rattle.text.specs.Sheet.{numbers, refused}
use Rattle.text.specs.Whole.{whole_of}
use Rattle.text.specs.Doc.{Name, Doc, scalar, array, object, Members, doc_of, count_all}
use Rattle.text.specs.declared.Refusal.{Refusal}
use Rattle.contact.specs.Schema.{ObjectType}
use Rattle.contact.specs.Values.{is_id, is_count}
use Rattle.contact.specs.Dates.{is_leap, is_day, is_time}
use Rattle.contact.specs.Rules.{breaks}
use Rattle.contact.specs.Judge.{nothing, found, card_breach}
use Rattle.contact.specs.Verdict.{passed, paper_of_verdict, judged_of, sheet_of_judged, table_of_judged}
use Rattle.contact.specs.SimpleValues.{Id, UnsignedInt, Leap, Day, UTCDateTime}
use Rattle.contact.specs.BetweenMembers.{BreaksBetween}
use Rattle.contact.specs.Breaches.{Keeps, FirstBreach}

-- ---- what is said of a text as a card, for a lent table of so many words

-- a text that is read with the tree f, for a table of so many words; and the document that it says keeps the listed rules
pub record CardText (L : Limits) (words : ℕ) (t : List ℕ) (f : Forest) : Type 0 where
  pub readable : Readable L words t f
  pub document : Doc
  pub says : Tells t f document
  pub keeps : Keeps document

-- the value of a row is this one: the row's places hold its token and its kind is the token's, or the row is that of an array (6) or an object (7) of
-- so many values
pub data Shows (t : List ℕ) : Head → Doc → Type 0 where
  token : {kind ns ne from to : ℕ} {w : List ℕ} → Stretch t from to w → Shows t (leaf_head kind ns ne from to) (scalar kind w)
  list : {ns ne from to : ℕ} {ms : Members}
      → Shows t (record { holds = true; kind = 6; ns = ns; ne = ne; from = from; to = to; below = count_all ms }) (array ms)
  box : {ns ne from to : ℕ} {ms : Members}
      → Shows t (record { holds = true; kind = 7; ns = ns; ne = ne; from = from; to = to; below = count_all ms }) (object ms)

-- t is read, the rule of number n is the first that the document that it says breaks, on some row; on that row of the text stands the value that breaks
-- it, and p is where that value starts
pub record Offends (L : Limits) (words : ℕ) (t : List ℕ) (n p : ℕ) : Type 0 where
  pub tree : Forest
  pub readable : Readable L words t tree
  pub document : Doc
  pub says : Tells t tree document
  pub row : ℕ
  pub first : FirstBreach document row n
  pub seat : Seat
  pub offender : Head
  pub stands : Sits top tree seat offender
  pub on_row : seat.after ≡ row
  pub shows : Shows t offender first.broken.value
  pub place : p ≡ offender.from

-- the answer on paper, and the whole table after it
pub data CardAnswer (L : Limits) (words : ℕ) (text : List ℕ) : (answer : Paper) → (table : List ℕ) → Type 0 where
  -- reading's refusals come first
  unread : {r : Refusal} → Unreadable L words text r → CardAnswer L words text (refused r) (filled words [])
  -- then a card that keeps all rules passes, and its rows are left in the table
  passes : {f : Forest} → CardText L words text f → CardAnswer L words text (numbers 0 (size f) 0) (filled words (tree_rows f))
  -- and any other is refused by the first line that is broken, at the first byte of the value that breaks it
  offends : {number place : ℕ} → Offends L words text number place → CardAnswer L words text (numbers number place 0) (filled words [])

-- ---- what is shown

-- what the contract of `judge` says of an answer and of what is left in a lent table
pub record Judges (L : Limits) (text lent : List ℕ) (answer : Result ℕ CardRefusal) (left : List ℕ) : Type 0 where
  pub answered : paper_of_verdict answer ≡ sheet_of_judged (judged_of L (length lent) text)
  pub table : left ≡ table_of_judged (length lent) (judged_of L (length lent) text)

-- all that is shown of judging
pub record Judging : Type 0 where
  -- the tests of single values tell just what specs/SimpleValues.antt says
  pub ids : (n : Name) → (is_id n ≡ true) ↔ Id n
  pub counts : (low high : ℕ) (token : List ℕ) → (is_count low high token ≡ true) ↔ UnsignedInt low high token
  pub leap_years : (y : ℕ) → (is_leap y ≡ true) ↔ Leap y
  pub days : (y m d : ℕ) → (is_day y m d ≡ true) ↔ Day y m d
  pub times : (t : List ℕ) → (is_time t ≡ true) ↔ UTCDateTime t
  -- and those of the rules between members what specs/BetweenMembers.antt says
  pub rules : (o : ObjectType) (ms : Members) → (breaks o ms ≡ true) ↔ BreaksBetween o ms
  -- the search of a document finds nothing just if nothing is broken, and a row and a number just if they are the first
  pub keeps : (d : Doc) → (card_breach d ≡ nothing) ↔ Keeps d
  pub first : (d : Doc) (row number : ℕ) → (card_breach d ≡ found row number) ↔ FirstBreach d row number
  -- a text passes, with its tree, just if reading accepts it with that tree and it keeps all rules
  pub accepted : (L : Limits) (words : ℕ) (t : List ℕ) (f : Forest)
      → (judged_of L words t ≡ passed f) ↔ ((to : ℕ) × (whole_of L words t ≡ good f to) × Keeps (doc_of t f))
  -- the answer and the table are those that `CardAnswer` gives, and no others
  pub answer : (L : Limits) (words : ℕ) (t : List ℕ) (p : Paper) (table : List ℕ)
      → ((p ≡ sheet_of_judged (judged_of L words t)) × (table ≡ table_of_judged words (judged_of L words t))) ↔ CardAnswer L words t p table
  -- the row of a refusal is one of the text's rows, so that its place is where a value starts
  pub place : (L : Limits) (words : ℕ) (t : List ℕ) (f : Forest) (to row number : ℕ) → whole_of L words t ≡ good f to
      → FirstBreach (doc_of t f) row number → row < size f
  -- an answer's numbers tell the answer
  pub one_answer : (a b : Result ℕ CardRefusal) → paper_of_verdict a ≡ paper_of_verdict b → a ≡ b
  -- two outcomes that the contract allows are equal
  pub one_outcome : (L : Limits) (t lent : List ℕ) (a b : Result ℕ CardRefusal) (x y : List ℕ) → Judges L t lent a x → Judges L t lent b y → (a ≡ b) × (x ≡ y)
