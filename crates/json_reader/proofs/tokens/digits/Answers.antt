-- `json_reader::tokens::digits` meets its contract: its test is that of `digits_at`. Assumes nothing.
use mathlib.Core.Path.{refl, sym, ◌∙◌}
use native.Mathlib.Omega.{arith}
use Rattle.text.specs.Tokens.{is_digit, digits_at}
use Rattle.text.proofs.TokenEnds.{run_byte}
use Rattle.json_reader.proofs.tokens.digits.Goals as goal

pub overflow_add-at : goal.overflow_add-at
overflow_add-at c =
    omega
    (arith, run_byte is_digit c.args.text.now refl c.args.at (sym c.digit_at.ensures ∙ c.if-digit_at.true))

pub returns-then-digit_at : goal.returns-then-digit_at
unfolding digits_at
returns-then-digit_at c = rw (← c.digit_at.ensures, c.if-digit_at.true, c.digits_end.ensures)

pub returns : goal.returns
unfolding digits_at
returns c = rw (← c.digit_at.ensures, c.if-digit_at.false)
