-- `vault::strings::ends_fraction` meets its contract: an exponent stands where the fraction ends. Assumes nothing.
use Rattle.std.specs.Prelude.{Result}
use Rattle.text.specs.declared.Fault.{Fault}
use mathlib.Core.Path.{sym, ap, ◌∙◌}
use mathlib.Core.List.{List}
use mathlib.Core.Bool.{Bool}
use Prim.Native.Nat.{ℕ}
use lib.ListN.{length}
use Rattle.text.specs.Tokens.{then_at, exp_at}
use Rattle.packing.specs.Fields.{ends_at}
use Rattle.vault.proofs.strings.ends_fraction.Goals as goal

-- what is asked, by the answer on the fraction
abbrev asked : List ℕ → Result ℕ (Fault ℕ) → Bool
asked w k = ends_at (length w) (then_at (exp_at w) k)

pub returns-in-Ok : goal.returns-in-Ok
returns-in-Ok c = c.ends_exponent.ensures ∙ sym (ap (asked c.args.content.now) (sym c.frac.ensures ∙ c.in-Ok.is))

pub returns-in-Err : goal.returns-in-Err
returns-in-Err c = sym (ap (asked c.args.content.now) (sym c.frac.ensures ∙ c.in-Err.is))
