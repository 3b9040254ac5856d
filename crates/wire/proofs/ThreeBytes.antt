-- The second byte of a sequence of three keeps what has to be kept. It stands alone, so that a wrong bound is refused here. Assumes nothing.
use mathlib.Core.Path.{◌≡◌}
use Prim.Native.Nat.{ℕ, ◌*◌, ◌%◌, ◌<◌}
use native.Mathlib.Omega.{arith}
use Rattle.laws.proofs.Branches.{if_less}
use Rattle.wire.specs.Inners.{move3}
use Rattle.wire.proofs.Sound.{MoveOk, sound_low, sound_basic}

pub three_ok : (from c : ℕ) → c < 1024 → MoveOk (move3 from c)
unfolding move3
three_ok from c h =
    let e : c % 65536 ≡ c = omega arith in
    if_less MoveOk c 32 (λ l. tt)
    (λ l. if_less MoveOk c 864 (λ m. rw e (sound_low (c * 64) (omega arith)))
    (λ m. if_less MoveOk c 896 (λ o. tt) (λ o. rw e (sound_basic c o h))))
