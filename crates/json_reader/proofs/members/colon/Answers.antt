-- `json_reader::members::colon` meets its contract: one law of `colon_at` for each return. Assumes nothing.
use Prim.Native.Nat.{◌+◌}
use mathlib.Core.Path.{◌≡◌, refl, ◌∙◌}
use native.Mathlib.Omega.{arith}
use Rattle.laws.proofs.Places.{inside}
use Rattle.text.specs.Text.{byte_at}
use Rattle.text.proofs.TokenEnds.{skip_span}
use Rattle.json_reader.proofs.Ways.{colon_none, colon_there}
use Rattle.json_reader.proofs.members.colon.Goals as goal

pub returns-then-peek-ne-COLON : goal.returns-then-peek-ne-COLON
returns-then-peek-ne-COLON c =
    let a = c.args in
    (refl, λ value at n. colon_none a.text.now value at a.to n c.skip-at.result c.skip-at.ensures (λ q. c.if-peek-ne-COLON.true (c.peek.ensures.value ∙ q)))

pub overflow_add-at : goal.overflow_add-at
overflow_add-at c = let i = inside c.args.text.now c.skip-at.result (omega arith) in omega arith

pub returns : goal.returns
returns c =
    let a = c.args in
    let t = a.text.now in
    let x = c.skip-at.result in
    let h : byte_at t x ≡ 58 = omega arith in
    let i = inside t x (omega arith) in
    let s = skip_span t a.to c.requires.1 in
    let s₂ = skip_span t (x + 1) (omega arith) in
    record {
      starts = refl;
      ends = refl;
      later = omega (arith, c.skip-at.ensures, c.skip-from.ensures);
      inside = omega (arith, c.skip-from.ensures);
      stays = refl;
      is = λ value at n. rw c.skip-from.ensures (colon_there t value at a.to n x c.skip-at.ensures h);
    }
