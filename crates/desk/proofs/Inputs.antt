-- What the contracts of the line say, for each way that the code goes:
--     says-over, says-judged         of bytes that were read, where there is more and where there isn't
--     says-longer, says-whole        of an input that is over the buffer, and of one that isn't
-- Assumes nothing.
use Rattle.std.specs.Prelude.{Result}
use Rattle.contact.specs.declared.CardRefusal.{CardRefusal}
use Prim.Native.Nat.{ℕ}
use mathlib.Core.Path.{◌≡◌, ◌∙◌}
use mathlib.Core.Bool.{Bool, true, false}
use mathlib.Core.List.{List}
use lib.ListN.{length, take, replicate}
use lib.Seq.{take_all}
use lib.Dec.{ltb}
use borrow.Author.Tests.{ltb-false}
use Rattle.text.specs.Limits.{base}
use Rattle.text.specs.declared.Paper.{Paper}
use Rattle.text.specs.Sheet.{numbers}
use Rattle.contact.specs.Verdict.{paper_of_verdict}
use Rattle.contact.specs.Judging.{Judges}
use Rattle.contact.specs.Services.{served}
use Rattle.desk.specs.Line.{buffer, line_of, left_of, of_input, left_after, Says, SaysFor}

pub says_over : (bytes : List ℕ) (words : ℕ) {more : Bool} {table : List ℕ} → more ≡ true → table ≡ replicate words 0 → Says bytes more words (numbers 34 0 0) table
unfolding line_of left_of
says_over bytes words e z = record { line = rw e; left = rw e z }

pub says_judged : (bytes lent : List ℕ) {more : Bool} {v : (Result ℕ CardRefusal)} {answer : Paper} {table : List ℕ} → more ≡ false → answer ≡ paper_of_verdict v → Judges base bytes lent v table
    → Says bytes more (length lent) answer table
unfolding line_of left_of served
says_judged bytes lent e a j = record { line = rw e (a ∙ j.answered); left = rw e j.table }

module _ (input : List ℕ) (words : ℕ) {answer : Paper} {table : List ℕ} where
  pub says_longer : ltb buffer (length input) ≡ true → Says (take buffer input) true words answer table → SaysFor input words answer table
  unfolding of_input left_after
  says_longer e s = record { line = rw e s.line; left = rw e s.left }

  pub says_whole : ltb buffer (length input) ≡ false → Says input false words answer table → SaysFor input words answer table
  unfolding of_input left_after
  says_whole e s = let all = take_all buffer input (ltb-false buffer (length input) e) in record { line = rw (e, all) s.line; left = rw (e, all) s.left }
