-- The parts of what is asked of one row, as the code asks them; and a breach as the definition has it. Assumes nothing: these are definitions.
use Rattle.std.specs.Prelude.{Option, Some, None}
use Rattle.std.specs.Prelude.{ℕ, Bool, cond, List}
use Rattle.laws.specs.Lists.{part_of}
use Rattle.text.specs.Tree.{Forest}
use Rattle.text.specs.Firsts.{kind_at, start_at, end_at}
use Rattle.text.specs.Doc.{Members}
use Rattle.contact.specs.Schema.{ObjectType, Ty, properties}
use Rattle.contact.specs.Rules.{breaks}
use Rattle.contact.specs.Judge as J
use Rattle.contact.specs.Judge.{lacking}
use Rattle.card.specs.Types.{allowed_as}
use Rattle.card.specs.declared.walk.Broken.{Broken}
use Rattle.card.specs.declared.walk.Broken.TheVariants.{Kind, Missing, Value, Rule}

-- 12, then 13 for its key, then 14 on an object of a type
unfoldable pub object_number : ObjectType → (key : Bool) → Members → ℕ
object_number o key ms =
    let rule : ℕ = cond (breaks o ms) 14 0 in
    let own : ℕ = cond key rule 13 in
    cond (lacking (properties o) ms) 12 own

-- 13 on the first value, for its key or for itself
unfoldable pub value_number : Ty → (key : Bool) → List ℕ → Forest → ℕ
value_number ty key t f =
    let own : ℕ = cond (allowed_as ty (kind_at f) (part_of t (start_at f) (end_at f))) 0 13 in
    cond key own 13

-- the number of the sheet for what is broken
abbrev pub sheet_number : Broken → ℕ
sheet_number Kind = 11
sheet_number Missing = 12
sheet_number Value = 13
sheet_number Rule = 14

-- the same, or 0 where nothing is
abbrev pub number_of : Option Broken → ℕ
number_of None = 0
number_of (Some broken) = sheet_number broken

-- a breach of the code
abbrev pub found_of : Option (ℕ × Broken) → J.Breach
found_of None = J.nothing
found_of (Some (row, broken)) = J.found row (sheet_number broken)
