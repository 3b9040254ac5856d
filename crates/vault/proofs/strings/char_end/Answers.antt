-- `vault::strings::char_end` meets its contract: a raw character stands inside the content, so its end is a place. Assumes nothing.
use Rattle.std.specs.Prelude.{Some, None, Ok, Err}
use mathlib.Core.Path.{sym, ◌∙◌, ap}
use Prim.Native.Nat.{◌≤◌}
use native.Mathlib.Omega.{arith}
use Rattle.laws.proofs.Places.{inside}
use Rattle.text.specs.Text.{byte_at}
use Rattle.vault.proofs.Spelling.{char_low, char_high, raw_inside}
use Rattle.vault.proofs.strings.char_end.Goals as goal

pub overflow_add-result : goal.overflow_add-result
overflow_add-result c = let a = c.args in omega (arith, inside a.content.now a.at (omega (arith, c.peek-b.ensures.value)))

pub returns-then-b-lt128 : goal.returns-then-b-lt128
returns-then-b-lt128 c = let a = c.args in sym (char_low a.content.now a.at (omega (arith, c.peek-b.ensures.value)))

-- the byte is none of ASCII
high : (c : goal.In-Ok-Some) → let a = c.args in 128 ≤ byte_at a.content.now a.at
high c = omega (arith, c.peek-b.ensures.value)

pub overflow_add-result-in-Ok-Some : goal.overflow_add-result-in-Ok-Some
overflow_add-result-in-Ok-Some c =
    let a = c.args in
    let is = sym c.raw_at.ensures ∙ (c.in-Ok-Some.is ∙ ap Ok c.in-Ok-Some.field-0-is) in
    let (l, n) = raw_inside a.content.now a.at (omega (arith, c.peek-b.ensures.value, c.peek-b.ensures.small)) (high c) is in
    omega (arith, l, n.few)

pub returns-in-Ok-Some : goal.returns-in-Ok-Some
returns-in-Ok-Some c =
    let a = c.args in
    let is = sym c.raw_at.ensures ∙ (c.in-Ok-Some.is ∙ ap Ok c.in-Ok-Some.field-0-is) in
    sym (char_high a.content.now a.at (high c) (Ok (Some (_, _))) is)

pub returns-in-Ok-None : goal.returns-in-Ok-None
returns-in-Ok-None c =
    let a = c.args in
    let is = sym c.raw_at.ensures ∙ (c.in-Ok-None.is ∙ ap Ok c.in-Ok-None.field-0-is) in
    sym (char_high a.content.now a.at (omega (arith, c.peek-b.ensures.value)) (Ok None) is)

pub returns-in-Err : goal.returns-in-Err
returns-in-Err c =
    let a = c.args in sym (char_high a.content.now a.at (omega (arith, c.peek-b.ensures.value)) (Err _) (sym c.raw_at.ensures ∙ c.in-Err.is))
