-- What the functions that localize promise each other. Assumes nothing: these are definitions.
use Rattle.std.specs.Prelude.{Result, Ok, Err}
use Rattle.contact.specs.declared.LocalRefusal.{LocalRefusal}
use Rattle.std.specs.Prelude.{ℕ, ◌≤◌, ◌≡◌, List, length, take}
use Rattle.text.specs.Limits.{base, loose}
use Rattle.contact.specs.Verdict.{judged_of}
use Rattle.contact.specs.Localize.{Outcome, done, denied, by_judge, answer_of_outcome, table_of_outcome}

-- what becomes of a text that was written: condition 28. It is judged without comparing names, since what was written has none twice in an object
abbrev pub judged_outcome : (words room : ℕ) → List ℕ → Outcome
judged_outcome words room text = by_judge base words room text (judged_of (loose base) words text)

-- the outcome is that of judging the first n bytes of the output, for a table of so many words
pub record Composed (words room : ℕ) (o : Outcome) (out : List ℕ) (n : ℕ) : Type 0 where
  pub fits : n ≤ length out
  pub is : o ≡ judged_outcome words room (take n out)

-- what is known of the outcome when the card was written, or was not
abbrev pub Made : (words room : ℕ) → Outcome → (out : List ℕ) → Result ℕ LocalRefusal → Type 0
Made words room o out (Ok n) = Composed words room o out n
Made words room o out (Err r) = o ≡ denied r

-- the answer and the table are the outcome's
pub record Yields (words : ℕ) (o : Outcome) (r : Result (ℕ × ℕ) LocalRefusal) (table : List ℕ) : Type 0 where
  pub answer : r ≡ answer_of_outcome o
  pub rows : table ≡ table_of_outcome words o

-- the output begins with the text, where there is a card
abbrev pub BeginsWith : Outcome → (out : List ℕ) → Type 0
BeginsWith (done text f) out = (length text ≤ length out) × (take (length text) out ≡ text)
BeginsWith (denied r) out = Prim.Unit {0}

-- the answer and the table are the outcome's, and the output begins so
pub record Answers (words : ℕ) (o : Outcome) (r : Result (ℕ × ℕ) LocalRefusal) (table out : List ℕ) : Type 0 where
  pub yields : Yields words o r table
  pub begins : BeginsWith o out
