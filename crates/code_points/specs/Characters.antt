-- Which code points are characters (docs/RULES.md, 3.4): no surrogate, no noncharacter, none past the last. Assumes nothing: these are definitions.
use Rattle.std.specs.Prelude.{ℕ, ◌%◌, Bool, true, false, cond, ltb}

unfoldable pub is_character : ℕ → Bool
is_character c =
    cond (ltb c 0xD800) true
    (cond (ltb c 0xE000) false
    (cond (ltb c 0xFDD0) true
    (cond (ltb c 0xFDF0) false
    (cond (ltb 0x10FFFF c) false (ltb (c % 65536) 0xFFFE)))))
