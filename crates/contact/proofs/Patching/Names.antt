-- Names: those of two that differ come in one order or the other (`before_total`); and `by_name`, the case split of the files beside this one.
-- Assumes nothing.
use mathlib.Core.Path.{◌≡◌, refl}
use mathlib.Core.Bool.{Bool, true, false, true≢false}
use mathlib.Core.Logic.{◌≢◌}
use Rattle.laws.specs.Order.{same, before}
use Rattle.laws.proofs.Orders.{OneOf, first, second, third, one_of_three}
use Rattle.text.specs.Doc.{Name}
pub use Rattle.text.proofs.Names.{same_yes, same_no, same?, by_name}

pub before_total : (a b : Name) → a ≢ b → before a b ≡ false → before b a ≡ true
before_total a b ne e = go (before a b) (same a b) (before b a) (one_of_three a b) e (same_no ne)
  where
    go : (x y z : Bool) → OneOf x y z → x ≡ false → y ≡ false → z ≡ true
    go x y z first p q = absurd (true≢false p)
    go x y z second p q = absurd (true≢false q)
    go x y z third p q = refl
