-- The field at a place, as it is found. Assumes nothing: these are definitions.
use Rattle.std.specs.Prelude.{Option, Some, None}
use Rattle.std.specs.Prelude.{ℕ, ◌+◌, ◌≤◌, ◌≡◌, List}
use Rattle.laws.specs.Lists.{part_of}
use Rattle.packing.specs.Fields.{torn, field, cut}
use Rattle.vault.specs.declared.cuts.Field.{Field}

-- it is the first of the fields from `at` up to `end`
pub record FieldTo (p : List ℕ) (at end : ℕ) (f : Field) : Type 0 where
  pub is : cut (part_of p at end) ≡ field f.tag (part_of p f.from f.end) (part_of p f.end end)
  pub start : f.from ≡ at + 3
  pub from : f.from ≤ f.end
  pub within : f.end ≤ end

-- what an answer says of the first of these fields
abbrev pub CutTo : (p : List ℕ) (at end : ℕ) → Option Field → Type 0
CutTo p at end (Some f) = FieldTo p at end f
CutTo p at end None = cut (part_of p at end) ≡ torn
