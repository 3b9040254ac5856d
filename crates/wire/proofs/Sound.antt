-- What a string's inner state has to keep so that a character can still come of it (`InnerOk`, `MoveOk`), and which code points a string may hold. Assumes nothing.
use Rattle.std.specs.Prelude.{Option, Some, None, Result, Ok, Err}
use Rattle.text.specs.declared.Fault.{Fault}
use Rattle.text.specs.declared.Fault.TheVariants.{Malformed, Forbidden}
use mathlib.Core.Path.{◌≡◌, refl}
use mathlib.Core.Bool.{Bool, true, false, cond}
use Prim.Native.Nat.{ℕ, zero, suc, ◌*◌, ◌%◌, ◌≤◌, ◌<◌}
use native.Mathlib.Omega.{arith}
use borrow.Author.Tests.{lt-ltb, le-ltb}
use Rattle.laws.proofs.Branches.{if_less}
use Rattle.wire.specs.Inners.{sound}
use Rattle.wire.specs.declared.Inner.{Inner}
use Rattle.wire.specs.declared.Inner.TheVariants.{Plain, Escape, Four, Pair, PairU, Low1, Low2, Low3, Low4, Second3, Second4, Tails}
use Rattle.wire.specs.Machine.{string}

-- a character can still come of it
abbrev pub InnerOk : Inner → Type 0
InnerOk Plain = Prim.Unit {0}
InnerOk (Escape from) = Prim.Unit {0}
InnerOk (Four from left v) = Prim.Unit {0}
InnerOk (Pair from high) = Prim.Unit {0}
InnerOk (PairU from high) = Prim.Unit {0}
InnerOk (Low1 from high) = Prim.Unit {0}
InnerOk (Low2 from high) = Prim.Unit {0}
InnerOk (Low3 from high v) = v < 4
InnerOk (Low4 from high v) = v < 64
InnerOk (Second3 from c) = c < 16
InnerOk (Second4 from c) = c < 5
InnerOk (Tails from zero c) = sound (c % 65536 * 64) ≡ true
InnerOk (Tails from (suc zero) c) = (16 ≤ c) × (c < 272)
InnerOk (Tails from (suc (suc left)) c) = ⊥

abbrev pub MoveOk : Result (Option Inner) (Fault ℕ) → Type 0
MoveOk (Ok (Some s)) = InnerOk s
MoveOk (Ok None) = Prim.Unit {0}
MoveOk (Err (Malformed p)) = Prim.Unit {0}
MoveOk (Err (Forbidden p)) = Prim.Unit {0}

pub move_cond : (x : Bool) (a b : Result (Option Inner) (Fault ℕ)) → MoveOk a → MoveOk b → MoveOk (cond x a b)
move_cond true a b p q = p
move_cond false a b p q = q

-- code points that a string may hold
pub sound_low : (c : ℕ) → c < 0xD800 → sound c ≡ true
unfolding sound
sound_low c h = rw (lt-ltb c 0xD800 h)

pub sound_basic : (c : ℕ) → 896 ≤ c → c < 1024 → sound (c * 64) ≡ true
unfolding sound
sound_basic c h k =
    let P : Bool → Type 0 = λ b. b ≡ true in
    rw (le-ltb (c * 64) 0xD800 (omega arith), le-ltb (c * 64) 0xE000 (omega arith))
    (if_less P (c * 64) 0xFDD0 (λ l. refl)
    (λ l. rw (le-ltb (c * 64) 0xFDF0 (omega arith), le-ltb 0x10FFFF (c * 64) (omega arith)) (lt-ltb (c * 64 % 65536) 0xFFFE (omega arith))))

-- a multiple of 16 beyond the basic plane
pub sound_beyond : (c : ℕ) → 0x10000 ≤ c → c ≤ 0x10FFFF → c % 16 ≡ 0 → sound c ≡ true
unfolding sound
sound_beyond c h k e =
    rw (le-ltb c 0xD800 (omega arith), le-ltb c 0xE000 (omega arith), le-ltb c 0xFDD0 (omega arith), le-ltb c 0xFDF0 (omega arith), le-ltb 0x10FFFF c k)
    (lt-ltb (c % 65536) 0xFFFE (omega arith))
