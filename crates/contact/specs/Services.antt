-- The three services on a whole text as a caller sees them: what a call lends, and what it leaves: the three numbers of the answer, the whole table and the
-- whole output. The contracts of `read`, `judge` and `localize` are equations; `served` gathers their right sides under one name. Assumes nothing: these are
-- definitions. The rules: docs/RULES.md, 7.
use Rattle.std.specs.Prelude.{ℕ, List, []}
use Rattle.text.specs.Limits.{Limits}
pub use Rattle.text.specs.Sheet.{Left, leaves}
use Rattle.text.specs.Whole.{whole_of, sheet_of, table_of}
use Rattle.text.specs.Doc.{Name}
use Rattle.contact.specs.Verdict.{judged_of, sheet_of_judged, table_of_judged}
use Rattle.contact.specs.Localize.{localized_of, sheet_of_outcome, table_of_outcome, output_of_outcome}

-- a text and a table of so many words; to localize, also a language and an output of so many bytes
pub data Call : Type 0 where
  read judge : (text : List ℕ) → (words : ℕ) → Call
  localize : (text : List ℕ) → (language : Name) → (words room : ℕ) → Call

-- the words of the lent table
abbrev pub words_of : Call → ℕ
words_of (read text words) = words
words_of (judge text words) = words
words_of (localize text language words room) = words

-- the bytes of the lent output; reading and judging are lent none
abbrev pub room_of : Call → ℕ
room_of (read text words) = 0
room_of (judge text words) = 0
room_of (localize text language words room) = room

-- what a call leaves, by the definitions of the three services
unfoldable pub served : Limits → Call → Left
served L (read text words) = let r = whole_of L words text in leaves (sheet_of r) (table_of words r) []
served L (judge text words) = let j = judged_of L words text in leaves (sheet_of_judged j) (table_of_judged words j) []
served L (localize text language words room) =
    let o = localized_of L words room text language in leaves (sheet_of_outcome o) (table_of_outcome words o) (output_of_outcome room o)
