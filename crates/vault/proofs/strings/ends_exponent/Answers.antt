-- `vault::strings::ends_exponent` meets its contract: an exponent begins with e or E. Assumes nothing.
use Rattle.std.specs.Prelude.{Ok}
use mathlib.Core.Path.{◌≡◌, sym, ap, ◌∙◌}
use mathlib.Core.List.{List}
use Prim.Native.Nat.{ℕ, ◌+◌}
use lib.ListN.{length}
use borrow.Author.Tests.{ne_eqb}
use Rattle.text.specs.Text.{byte_at}
use Rattle.text.specs.Tokens.{digits_at, sign_end, exp_at}
use Rattle.packing.specs.Fields.{ends_at}
use Rattle.vault.proofs.strings.ends_exponent.Goals.{then-b-eq-SMALL_E-via-then-b-eq-SMALL_E, then-b-eq-SMALL_E-via-else-b-eq-SMALL_E+then-b-eq-LARGE_E}
use Rattle.vault.proofs.strings.ends_exponent.Goals as goal

module _ (w : List ℕ) (i : ℕ) where
  small : byte_at w i ≡ 101 → exp_at w i ≡ digits_at w (sign_end w (i + 1))
  unfolding exp_at
  small e = rw e

  large : byte_at w i ≡ 69 → exp_at w i ≡ digits_at w (sign_end w (i + 1))
  unfolding exp_at
  large e = rw e

  none : (byte_at w i ≡ 101 → ⊥) → (byte_at w i ≡ 69 → ⊥) → exp_at w i ≡ Ok i
  unfolding exp_at
  none h k = rw (ne_eqb (byte_at w i) 101 h, ne_eqb (byte_at w i) 69 k)

-- what stands behind the letter
letter : (c : goal.After-ends_digits) → let w = c.args.content.now in let i = c.args.at in exp_at w i ≡ digits_at w (sign_end w (i + 1))
letter c =
    let w = c.args.content.now in
    let p = c.peek-b.ensures.value in
    elim c.then-b-eq-SMALL_E.branch [
      | then-b-eq-SMALL_E-via-then-b-eq-SMALL_E b ↦ small w c.args.at (sym p ∙ b.if-b-eq-SMALL_E.true)
      | then-b-eq-SMALL_E-via-else-b-eq-SMALL_E+then-b-eq-LARGE_E b ↦ large w c.args.at (sym p ∙ b.if-b-eq-LARGE_E.true)
    ]

pub returns-then-b-eq-SMALL_E : goal.returns-then-b-eq-SMALL_E
returns-then-b-eq-SMALL_E c = c.ends_digits.ensures ∙ sym (ap (ends_at (length c.args.content.now)) (letter c))

pub returns : goal.returns
returns c =
    let w = c.args.content.now in
    let p = c.peek-b.ensures.value in
    sym (ap (ends_at (length w)) (none w c.args.at (λ e. c.if-b-eq-SMALL_E.false (p ∙ e)) (λ e. c.if-b-eq-LARGE_E.false (p ∙ e))))
