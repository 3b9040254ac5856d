-- `vault::strings::is_text` meets its contract: each turn goes on behind a character. The measure is what is left of the content. Assumes nothing.
use mathlib.Core.Path.{◌≡◌, sym, ◌∙◌}
use Prim.Native.Nat.{◌<◌}
use native.Mathlib.Omega.{arith}
use Rattle.text.specs.Text.{byte_at}
use Rattle.packing.specs.Fields.{text_from}
use Rattle.laws.proofs.Places.{any_default}
use Rattle.vault.proofs.Spelling.{text_on, text_over}
use Rattle.vault.proofs.strings.is_text.Goals as goal

pub returns-in_default : goal.returns-in_default
returns-in_default c =
    let t = c.args.content.now in
    let small : byte_at t c.loop-at.at < 256 = omega (arith, c.type_inv.content c.loop-at.at, any_default 0 256 t c.loop-at.at c.loop-at-test.true) in
    let none = rw (sym c.char_end.ensures ∙ c.in_default.is) at (text_on t c.loop-at.at small) in
    sym none ∙ c.loop-at.invariant

-- the text goes on at a later place
on : (c : goal.In-Some) → let t = c.args.content.now in (c.loop-at.at < c.in-Some.next) × (text_from t c.loop-at.at ≡ text_from t c.in-Some.next)
on c =
    let t = c.args.content.now in
    let small : byte_at t c.loop-at.at < 256 = omega (arith, c.type_inv.content c.loop-at.at, any_default 0 256 t c.loop-at.at c.loop-at-test.true) in
    rw (sym c.char_end.ensures ∙ c.in-Some.is) at (text_on t c.loop-at.at small)

pub loop-at-smaller : goal.loop-at-smaller
loop-at-smaller c = omega (arith, (on c).0, c.loop-at-test.true)

pub loop-at-preserved : goal.loop-at-preserved
loop-at-preserved c = sym (on c).1 ∙ c.loop-at.invariant

pub returns : goal.returns
returns c = sym (text_over c.args.content.now c.loop-at.at c.loop-at-test.false) ∙ c.loop-at.invariant
