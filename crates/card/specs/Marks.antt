-- What the code keeps of the entries of a list: a tally of separators.
-- Assumes nothing: these are definitions.
use Rattle.std.specs.Prelude.{List, [], ◌∷◌, Bool, true, false, ◌&&◌, ◌||◌}
use Rattle.card.specs.declared.rules.Marks.{Marks}

-- a tally by its four answers: any, all, two in a row, the last
abbrev pub tallied : (any all twice last : Bool) → Marks
tallied any all twice last = record { any = any; all = all; twice = twice; last = last }

-- before the first entry
abbrev pub no_marks : Marks
no_marks = tallied false true false false

-- one more entry, a separator or not
abbrev pub mark_on : Marks → Bool → Marks
mark_on m s = tallied (m.any || s) (m.all && s) (m.twice || (m.last && s)) s

-- all entries of a list, one after the other
unfoldable pub tally : Marks → List Bool → Marks
tally m [] = m
tally m (s ∷ ss) = tally (mark_on m s) ss
