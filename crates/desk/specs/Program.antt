-- What the program does, sentence by sentence, of any function that says which line is printed for an input: `Desk`. proofs/Program.antt proves it of
-- `of_input` (specs/Line.antt) with the rows that the program lends, so of any function with the contract of `program_line` (`ByContract`); that a
-- byte more than the buffer holds is read enough (`ReadEnough`); and that two functions of which it holds say the same (`OneLine`).
-- That the bytes handed over are those of the input, and that the line's two numbers are written, is no part of it (docs/TRUST.md).
-- docs/RULES.md, 8.2. Assumes nothing: these are definitions.
use Rattle.std.specs.Prelude.{ℕ, ◌+◌, ◌≤◌, ◌<◌, ◌≡◌, ◌↔◌, List, ◌++◌, length, take}
use Rattle.text.specs.Limits.{base}
use Rattle.text.specs.Tree.{Forest}
use Rattle.text.specs.declared.Paper.{Paper}
use Rattle.text.specs.Sheet.{numbers}
use Rattle.text.specs.Grammar.{JsonText}
use Rattle.text.specs.Fault.{RowsShort}
use Rattle.contact.specs.Judging.{CardText}
use Rattle.contact.specs.Services.{judge, served}
use Rattle.desk.specs.Line.{buffer, words_lent, of_input}

-- what the program does, if `says` gives the numbers of the line for an input
pub record Desk (says : List ℕ → Paper) : Type 0 where
  -- 34 and 0 exactly if the input is over the buffer: first of all, whatever its bytes are
  pub over : (input : List ℕ) (second : ℕ) → (says input ≡ numbers 34 second 0) ↔ ((buffer < length input) × (second ≡ 0))
  -- else the answer of judging the whole of it with the rows that are lent; what judging answers say the demands (crate contact)
  pub judged : (input : List ℕ) → length input ≤ buffer → says input ≡ (served base (judge input words_lent)).answer
  -- so what passes is a whole input within the buffer, and a card: a longer text isn't cut to a good one
  pub passes : (input : List ℕ) → ((says input).number ≡ 0) ↔ ((length input ≤ buffer) × ((f : Forest) × CardText base words_lent input f))
  -- 1 is never said
  pub never_long : (input : List ℕ) → ¬ ((says input).number ≡ 1)
  -- 6 is said only of a text that ends early, or is broken: any JSON text that begins with its bytes up to the place of 6 is over the buffer
  pub unfinished : (input : List ℕ) (p : ℕ) → says input ≡ numbers 6 p 0 → (rest : List ℕ) → JsonText (take (p + 1) input ++ rest)
      → buffer < length (take (p + 1) input ++ rest)
  -- so never of a JSON text, whatever its depth, its names and its strings
  pub never_many : (input : List ℕ) → JsonText input → ¬ ((says input).number ≡ 6)
  -- 7 exactly if the input is within the buffer and sound but for having more values than there are rows; the second number is that of its values
  pub rows_short : (input : List ℕ) (n : ℕ) → (says input ≡ numbers 7 n 0) ↔ ((length input ≤ buffer) × RowsShort base words_lent input n)

-- any function does this that keeps the contract of `program_line`
abbrev pub ByContract : Type 0
ByContract = (says : List ℕ → Paper) → ((input : List ℕ) → says input ≡ of_input input words_lent) → Desk says

-- and what it says hangs on no more than one byte over the buffer: so the program needs to read no further
abbrev pub ReadEnough : Type 0
ReadEnough = (says : List ℕ → Paper) → Desk says → (input : List ℕ) (n : ℕ) → buffer < n → says (take n input) ≡ says input

-- no two functions that do this differ
abbrev pub OneLine : Type 0
OneLine = (says tells : List ℕ → Paper) → Desk says → Desk tells → (input : List ℕ) → says input ≡ tells input
