-- What localizing promises of its answer and of what it leaves in the lent table and the lent output. Assumes nothing: these are definitions.
use Rattle.std.specs.Prelude.{Result}
use Rattle.contact.specs.declared.LocalRefusal.{LocalRefusal}
use Rattle.std.specs.Prelude.{ℕ, ◌≡◌, List}
use Rattle.text.specs.Limits.{Limits}
use Rattle.text.specs.Doc.{Name}
use Rattle.contact.specs.Localize.{paper_of_localized, localized_of, sheet_of_outcome, answer_of_outcome, table_of_outcome, output_of_outcome}

-- the answer r, the whole table and the whole output, for a text and a language
pub record Localizes (L : Limits) (words room : ℕ) (text : List ℕ) (lang : Name) (r : Result (ℕ × ℕ) LocalRefusal) (table output : List ℕ) : Type 0 where
  -- the paper's numbers; and 28's inner place, which they leave out
  pub paper : paper_of_localized r ≡ sheet_of_outcome (localized_of L words room text lang)
  pub answer : r ≡ answer_of_outcome (localized_of L words room text lang)
  pub rows : table ≡ table_of_outcome words (localized_of L words room text lang)
  pub bytes : output ≡ output_of_outcome room (localized_of L words room text lang)
