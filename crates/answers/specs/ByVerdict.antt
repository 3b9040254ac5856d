-- The answer of localizing by the verdict on what was written, and the bytes of the output that an answer says are used.
-- docs/RULES.md, 6.7 and 7. Assumes nothing: these are definitions.
use Rattle.std.specs.Prelude.{Result, Ok, Err}
use Rattle.contact.specs.declared.CardRefusal.{CardRefusal}
use Rattle.contact.specs.declared.LocalRefusal.{LocalRefusal}
use Rattle.std.specs.Prelude.{ℕ}
use Rattle.contact.specs.declared.LocalRefusal.TheVariants.{Inner}

-- n bytes were written: they are the answer with their rows, or 28
abbrev pub by_verdict : Result ℕ CardRefusal → (n : ℕ) → Result (ℕ × ℕ) LocalRefusal
by_verdict (Ok rows) n = Ok (rows, n)
by_verdict (Err r) n = Err (Inner r)

-- after a refusal none
abbrev pub used_by : Result (ℕ × ℕ) LocalRefusal → ℕ
used_by (Ok (rows, n)) = n
used_by (Err r) = 0
