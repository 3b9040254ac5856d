-- `vault::strings::is_number` meets its contract: fraction and exponent stand where the whole part ends. Assumes nothing.
use Rattle.std.specs.Prelude.{Result}
use Rattle.text.specs.declared.Fault.{Fault}
use mathlib.Core.Path.{◌≡◌, sym, ap, ◌∙◌}
use mathlib.Core.List.{List}
use mathlib.Core.Bool.{Bool}
use Prim.Native.Nat.{ℕ}
use lib.ListN.{length}
use Rattle.text.specs.Tokens.{then_at, int_at, frac_at, exp_at, number_at}
use Rattle.packing.specs.Fields.{ends_at, is_number}
use Rattle.vault.proofs.strings.is_number.Goals as goal

-- what is asked, by the answer on the whole part
abbrev asked : List ℕ → Result ℕ (Fault ℕ) → Bool
asked w k = ends_at (length w) (then_at (exp_at w) (then_at (frac_at w) k))

whole : (c : goal.After-ends_fraction) → let w = c.args.content.now in (k : Result ℕ (Fault ℕ)) → c.int.result ≡ k → is_number w ≡ asked w k
unfolding is_number number_at
whole c k e = let w = c.args.content.now in ap (asked w) (sym (ap (int_at w) c.minus_end.ensures) ∙ sym c.int.ensures ∙ e)

pub returns-in-Ok : goal.returns-in-Ok
returns-in-Ok c = c.ends_fraction.ensures ∙ sym (whole c _ c.in-Ok.is)

whole_2 : (c : goal.In-Err) → let w = c.args.content.now in (k : Result ℕ (Fault ℕ)) → c.int.result ≡ k → is_number w ≡ asked w k
unfolding is_number number_at
whole_2 c k e = let w = c.args.content.now in ap (asked w) (sym (ap (int_at w) c.minus_end.ensures) ∙ sym c.int.ensures ∙ e)

pub returns-in-Err : goal.returns-in-Err
returns-in-Err c = sym (whole_2 c _ c.in-Err.is)
