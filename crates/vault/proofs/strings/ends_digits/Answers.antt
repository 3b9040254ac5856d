-- `vault::strings::ends_digits` meets its contract. Assumes nothing.
use Rattle.std.specs.Prelude.{Result, ℕ}
use Rattle.text.specs.declared.Fault.{Fault}
use mathlib.Core.Path.{◌≡◌, sym, ap, ◌∙◌}
use lib.ListN.{length}
use Rattle.text.specs.Tokens.{digits_at, sign_end}
use Rattle.packing.specs.Fields.{ends_at}
use Rattle.vault.proofs.strings.ends_digits.Goals as goal

-- what is asked, by the answer on the digits
asked : (c : goal.In-Ok) → let a = c.args in let w = a.content.now in (k : Result ℕ (Fault ℕ)) → c.digits.result ≡ k
    → ends_at (length w) (digits_at w (sign_end w a.at)) ≡ ends_at (length w) k
asked c k e =
    let a = c.args in
    let w = a.content.now in
    ap (ends_at (length w)) (sym (ap (digits_at w) c.sign_end.ensures) ∙ sym c.digits.ensures ∙ e)

pub returns-in-Ok : goal.returns-in-Ok
returns-in-Ok c = sym (asked c _ c.in-Ok.is)

-- what is asked, by the answer on the digits
asked_2 : (c : goal.In-Err) → let a = c.args in let w = a.content.now in (k : Result ℕ (Fault ℕ)) → c.digits.result ≡ k
    → ends_at (length w) (digits_at w (sign_end w a.at)) ≡ ends_at (length w) k
asked_2 c k e =
    let a = c.args in
    let w = a.content.now in
    ap (ends_at (length w)) (sym (ap (digits_at w) c.sign_end.ensures) ∙ sym c.digits.ensures ∙ e)

pub returns-in-Err : goal.returns-in-Err
returns-in-Err c = sym (asked_2 c _ c.in-Err.is)
