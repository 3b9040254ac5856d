-- The refusal sheet (docs/RULES.md, 2.1): the paper's numbers for each case of reading's answer; and what a call leaves, and how it may end.
-- Assumes nothing: these are definitions.
use Rattle.std.specs.Prelude.{Result, Ok, Err}
use Rattle.std.specs.Prelude.{ℕ, ◌+◌, ◌*◌, ◌≤◌, ◌≡◌, List, ◌++◌, length, replicate}
use Rattle.text.specs.Limits.{row_words}
use Rattle.text.specs.declared.Fault.{Fault}
use Rattle.text.specs.declared.Fault.TheVariants.{Malformed, Forbidden}
use Rattle.text.specs.declared.Paper.{Paper}
use Rattle.text.specs.declared.Refusal.{Refusal}
use Rattle.text.specs.declared.Refusal.TheVariants.{TooLong, Grammar, Character, Repeated, Deep, Many, Small}

-- an answer on paper, by its three numbers (src/lib.rt says which)
abbrev pub numbers : ℕ → ℕ → ℕ → Paper
numbers number second written = record { number = number; second = second; written = written }

-- the refusal that a fault of a token or a character is: 2 or 3, at the same place
abbrev pub refusal_of : Fault ℕ → Refusal
refusal_of (Malformed p) = Grammar p
refusal_of (Forbidden p) = Character p

-- the sheet's first seven lines
unfoldable pub refused : Refusal → Paper
refused TooLong = numbers 1 0 0
refused (Grammar p) = numbers 2 p 0
refused (Character p) = numbers 3 p 0
refused (Repeated p) = numbers 4 p 0
refused (Deep p) = numbers 5 p 0
refused (Many p) = numbers 6 p 0
refused (Small rows) = numbers 7 rows 0

-- an answer of reading: 0 and the row count, or the refusal's two numbers
unfoldable pub paper : Result ℕ Refusal → Paper
paper (Ok n) = numbers 0 n 0
paper (Err r) = refused r

-- ---- what a call leaves

-- the three numbers of the answer, the whole table and the whole output; a service that is lent no table or no output leaves an empty one
pub record Left : Type 0 where
  pub answer : Paper
  pub table : List ℕ
  pub output : List ℕ

-- the three under one name
abbrev pub leaves : Paper → (table output : List ℕ) → Left
leaves answer table output = record { answer = answer; table = table; output = output }

-- from low up to high
abbrev pub Within : (low high n : ℕ) → Type 0
Within low high n = (low ≤ n) × (n ≤ high)

-- how a call ends that may refuse by these lines of the sheet, and is lent a table of so many words and an output of so many bytes
pub data EndsBy (Line : ℕ → Type 0) (words room : ℕ) : Left → Type 0 where
  -- with acceptance: the row count and the length of what is written; so many rows stand in the table and so many bytes in the output, and zero behind them
  acceptance : (rows bytes : List ℕ) (count spare rest : ℕ) → length rows ≡ row_words * count → length rows + spare ≡ words → length bytes + rest ≡ room
      → EndsBy Line words room (leaves (record { number = 0; second = count; written = length bytes }) (rows ++ replicate spare 0) (bytes ++ replicate rest 0))
  -- or with one numbered refusal of the sheet, and nothing written: every word and every byte that was lent is zero
  refusal : {number second : ℕ} → Line number → EndsBy Line words room (leaves (record { number = number; second = second; written = 0 }) (replicate words 0) (replicate room 0))
