-- The line of an answer on the refusal sheet, given the lines of its refusals (docs/RULES.md, 2.1). `proofs/Lines.antt` has each service's.
-- Assumes nothing: these are definitions.
use Rattle.std.specs.Prelude.{ℕ, Result, Ok, Err}
use Rattle.text.specs.declared.Paper.{Paper}
use Rattle.text.specs.Sheet.{numbers}

-- 0 and what is counted, or the refusal's line
abbrev pub counted : {E : Type 0} → (E → Paper) → Result ℕ E → Paper
counted line (Ok n) = numbers 0 n 0
counted line (Err r) = line r

-- 0, what is counted and the bytes written, or the refusal's line
abbrev pub written : {E : Type 0} → (E → Paper) → Result (ℕ × ℕ) E → Paper
written line (Ok (n, bytes)) = numbers 0 n bytes
written line (Err r) = line r
