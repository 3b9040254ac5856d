-- The words of a row in a table (docs/RULES.md, 4): here alone the definitions say which word says what, but for `row_of`, which lists them.
-- Assumes nothing: these are definitions.
use Rattle.std.specs.Prelude.{ℕ, ◌+◌, ◌*◌, List, get_or}
use Rattle.text.specs.Limits.{row_words}

-- word i of row k of a table, and 0 where the table has it not
abbrev pub word_of : List ℕ → ℕ → ℕ → ℕ
word_of table k i = get_or table (k * row_words + i) 0

-- ---- the order of a row's words (docs/RULES.md, 4)

-- the kind
abbrev pub kind_in : List ℕ → ℕ → ℕ
kind_in table k = word_of table k 0

-- where the name starts, after the quote
abbrev pub name_start_in : List ℕ → ℕ → ℕ
name_start_in table k = word_of table k 1

-- where the name ends, before the quote
abbrev pub name_end_in : List ℕ → ℕ → ℕ
name_end_in table k = word_of table k 2

-- where the value starts
abbrev pub start_in : List ℕ → ℕ → ℕ
start_in table k = word_of table k 3

-- where the value ends
abbrev pub end_in : List ℕ → ℕ → ℕ
end_in table k = word_of table k 4

-- the number of values below it
abbrev pub below_in : List ℕ → ℕ → ℕ
below_in table k = word_of table k 5

-- where the last two words of row k stand
abbrev pub links_at : ℕ → ℕ
links_at k = k * row_words + 6

-- the row of the array or object in which it directly stands, 0 for the root
abbrev pub parent_in : List ℕ → ℕ → ℕ
parent_in table k = word_of table k 6

-- the row of the value that follows it there, 0 where none does
abbrev pub sibling_in : List ℕ → ℕ → ℕ
sibling_in table k = word_of table k 7
