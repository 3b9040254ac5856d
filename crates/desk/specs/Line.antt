-- The line that the program prints for what it read, and what it leaves in the table that it lends. The sizes of the program's own buffers stand here alone
-- (the code has them in src/limits.rt): they are smaller than what a text may have (`base`, crate text).
-- docs/RULES.md, 8.2. Assumes nothing: these are definitions.
use Rattle.std.specs.Prelude.{ℕ, ◌*◌, ◌≡◌, Bool, cond, List, length, take, replicate, ltb}
use Rattle.text.specs.Limits.{row_words, base}
use Rattle.text.specs.declared.Paper.{Paper}
use Rattle.text.specs.Sheet.{numbers}
use Rattle.contact.specs.Services.{judge, served}

-- the bytes of an input that the program judges at the most
abbrev pub buffer : ℕ
buffer = 65536

-- the rows of the table that it lends, and their words
abbrev pub rows_lent : ℕ
rows_lent = 2048

abbrev pub words_lent : ℕ
words_lent = rows_lent * row_words

-- ---- of bytes that were read, for a table of so many words; `more` says whether there were others behind them

-- 34 and 0 first of all, else what judging answers of the bytes
unfoldable pub line_of : (bytes : List ℕ) (more : Bool) (words : ℕ) → Paper
line_of bytes more words = cond more (numbers 34 0 0) (served base (judge bytes words)).answer

-- after 34 every word of the table is zero, else it is as judging leaves it
unfoldable pub left_of : (bytes : List ℕ) (more : Bool) (words : ℕ) → List ℕ
left_of bytes more words = cond more (replicate words 0) (served base (judge bytes words)).table

-- ---- of a whole input: as much of it as the buffer holds, and whether that was all

unfoldable pub of_input : (input : List ℕ) (words : ℕ) → Paper
of_input input words = line_of (take buffer input) (ltb buffer (length input)) words

unfoldable pub left_after : (input : List ℕ) (words : ℕ) → List ℕ
left_after input words = left_of (take buffer input) (ltb buffer (length input)) words

-- ---- what the contracts say of an answer and of a lent table of so many words

pub record Says (bytes : List ℕ) (more : Bool) (words : ℕ) (answer : Paper) (table : List ℕ) : Type 0 where
  pub line : answer ≡ line_of bytes more words
  pub left : table ≡ left_of bytes more words

pub record SaysFor (input : List ℕ) (words : ℕ) (answer : Paper) (table : List ℕ) : Type 0 where
  pub line : answer ≡ of_input input words
  pub left : table ≡ left_after input words
