-- `card::content::content` meets its contract: a part of a part. Assumes nothing.
use mathlib.Core.Path.{◌≡◌, ◌∙◌}
use native.Mathlib.Omega.{arith}
use Prim.Native.Nat.{◌-◌}
use lib.ListN.{length}
use Rattle.card.proofs.content.content.Goals as goal

pub returns-then-size-lt1 : goal.returns-then-size-lt1
returns-then-size-lt1 c =
    let none : length c.slice-token.result.now - 1 ≡ 0 = omega arith in
    c.slice.ensures ∙ rw (← c.slice-token.ensures, none)

pub returns : goal.returns
returns c = c.slice-2.ensures ∙ rw c.slice-token.ensures
