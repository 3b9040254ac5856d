-- A contract that is an equation determines the answer: two outcomes that it allows are equal. Assumes nothing.
use mathlib.Core.Path.{◌≡◌, sym, ◌∙◌}

pub determined : {A : Type 0} {x y v : A} → x ≡ v → y ≡ v → x ≡ y
determined p q = p ∙ sym q
