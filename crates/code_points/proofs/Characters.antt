-- `checked_at` (crate text) asks whether the code point is a character. Assumes nothing.
use Rattle.std.specs.Prelude.{Some, Ok, Err}
use mathlib.Core.Path.{◌≡◌, refl}
use mathlib.Core.Bool.{Bool, true, false, cond}
use Prim.Native.Nat.{ℕ, ◌%◌}
use lib.Dec.{ltb}
use Rattle.text.specs.declared.Fault.TheVariants.{Forbidden}
use Rattle.text.specs.Chars.{checked_at}
use Rattle.code_points.specs.Characters.{is_character}

pub checked_is : (i c n : ℕ) → cond (is_character c) (Ok (Some (c, n))) (Err (Forbidden i)) ≡ checked_at i c n
unfolding checked_at is_character
checked_is i c n = go (Ok (Some (c, n))) (Err (Forbidden i)) (ltb c 0xD800) (ltb c 0xE000) (ltb c 0xFDD0) (ltb c 0xFDF0) (ltb 0x10FFFF c) (ltb (c % 65536) 0xFFFE)
  where
    go : {A : Type 0} (taken wrong : A) (x1 x2 x3 x4 x5 x6 : Bool)
        → cond (cond x1 true (cond x2 false (cond x3 true (cond x4 false (cond x5 false x6))))) taken wrong
        ≡ cond x1 taken (cond x2 wrong (cond x3 taken (cond x4 wrong (cond x5 wrong (cond x6 taken wrong)))))
    go taken wrong true x2 x3 x4 x5 x6 = refl
    go taken wrong false true x3 x4 x5 x6 = refl
    go taken wrong false false true x4 x5 x6 = refl
    go taken wrong false false false true x5 x6 = refl
    go taken wrong false false false false true x6 = refl
    go taken wrong false false false false false x6 = refl
