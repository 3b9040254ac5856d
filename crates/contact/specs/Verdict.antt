-- What judging a text answers, and what it leaves in a lent table of so many words.
-- Assumes nothing: these are definitions.
use Rattle.std.specs.Prelude.{Result, Ok, Err}
use Rattle.std.specs.Prelude.{ℕ, List, [], cond, get_or, eqb}
use Rattle.text.specs.Limits.{Limits}
use Rattle.laws.specs.Lists.{filled}
use Rattle.text.specs.Tree.{Forest, size, tree_rows, starts_of}
use Rattle.text.specs.Reader.{Read, good, bad}
use Rattle.text.specs.declared.Paper.{Paper}
use Rattle.text.specs.Sheet.{numbers, refused}
use Rattle.text.specs.Whole.{whole_of}
use Rattle.text.specs.Doc.{doc_of}
use Rattle.contact.specs.Judge.{Breach, nothing, found, card_breach}
use Rattle.contact.specs.declared.CardFault.{CardFault}
use Rattle.contact.specs.declared.CardFault.TheVariants.{Kind, Missing, Value, Rule}
use Rattle.contact.specs.declared.CardRefusal.{CardRefusal}
use Rattle.contact.specs.declared.CardRefusal.TheVariants.{Text, Card}

-- ---- the sheet's lines 11 to 14

-- the numbers of a fault: its line, and the place
unfoldable pub refused_fault : CardFault → Paper
refused_fault (Kind p) = numbers 11 p 0
refused_fault (Missing p) = numbers 12 p 0
refused_fault (Value p) = numbers 13 p 0
refused_fault (Rule p) = numbers 14 p 0

-- the numbers of a refusal by reading or by the card rules
unfoldable pub refused_card : CardRefusal → Paper
refused_card (Text r) = refused r
refused_card (Card f) = refused_fault f

-- the numbers of an answer: 0 and the rows, or those of the refusal
unfoldable pub paper_of_verdict : Result ℕ CardRefusal → Paper
paper_of_verdict (Ok n) = numbers 0 n 0
paper_of_verdict (Err r) = refused_card r

-- ---- judging

-- the tree of a card that passes, or the refusal
pub data Judged : Type 0 where
  passed : Forest → Judged
  failed : CardRefusal → Judged

-- the fault of a number from 11 to 14 at a place
unfoldable pub fault_of : (number place : ℕ) → CardFault
fault_of number p = cond (eqb number 11) (Kind p) (cond (eqb number 12) (Missing p) (cond (eqb number 13) (Value p) (Rule p)))

-- the place of a breach is where the value of its row starts
unfoldable pub by_breach : Forest → Breach → Judged
by_breach f nothing = passed f
by_breach f (found row number) = failed (Card (fault_of number (get_or (starts_of f) row 0)))

-- what reading refuses is refused so; else the first breach decides
unfoldable pub judged_read : List ℕ → Read → Judged
judged_read t (bad r) = failed (Text r)
judged_read t (good f to) = by_breach f (card_breach (doc_of t f))

-- a text judged for a table of so many words: 1 to 7 come first, then 11 to 14
unfoldable pub judged_of : Limits → (words : ℕ) → List ℕ → Judged
judged_of L words t = judged_read t (whole_of L words t)

-- ---- the answer and the whole table

-- the answer as it is handed out
abbrev pub answer_of_judged : Judged → Result ℕ CardRefusal
answer_of_judged (passed f) = Ok (size f)
answer_of_judged (failed r) = Err r

-- the answer in the paper's numbers: 0 and the row count, or the refusal's two numbers; this is the line that the program prints
unfoldable pub sheet_of_judged : Judged → Paper
sheet_of_judged j = paper_of_verdict (answer_of_judged j)

-- the whole table: the rows and zero after them; after a refusal zero
unfoldable pub table_of_judged : (words : ℕ) → Judged → List ℕ
table_of_judged words (passed f) = filled words (tree_rows f)
table_of_judged words (failed r) = filled words []
