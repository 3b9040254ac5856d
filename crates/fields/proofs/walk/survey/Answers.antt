-- `fields::walk::survey` meets its contract: what is too long is unfit, and else the walk decides. Assumes nothing.
use mathlib.Core.Path.{◌≡◌, ◌∙◌}
use mathlib.Core.List.{List}
use Prim.Native.Nat.{ℕ, ◌≤◌}
use lib.ListN.{length}
use native.Mathlib.Omega.{arith}
use borrow.Author.Tests.{lt-ltb, le-ltb}
use Rattle.fields.specs.Survey.{survey_from, survey_of, longest}
use Rattle.fields.proofs.walk.survey.Goals as goal

walked : (p : List ℕ) → length p ≤ longest → survey_from p 0 0 ≡ survey_of p
unfolding survey_of
walked p h = rw (le-ltb longest (length p) h)

pub returns-then-packed-gt-LONGEST : goal.returns-then-packed-gt-LONGEST
unfolding survey_of
returns-then-packed-gt-LONGEST c = rw (lt-ltb longest (length c.args.packed.now) c.if-packed-gt-LONGEST.true)

pub returns-in-0-to-64 : goal.returns-in-0-to-64
returns-in-0-to-64 c = c.survey_in.ensures ∙ walked c.args.packed.now (omega arith)

pub returns-in-0-to-1024 : goal.returns-in-0-to-1024
returns-in-0-to-1024 c = c.survey_in-in-0-to-1024.ensures ∙ walked c.args.packed.now (omega arith)

pub returns-in_default : goal.returns-in_default
returns-in_default c = c.survey_in-in_default.ensures ∙ walked c.args.packed.now (omega arith)
