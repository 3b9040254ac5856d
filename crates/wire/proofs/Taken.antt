-- One byte more: it is fed within the limit, and cuts off beyond it. It stands alone, so that a wrong limit is refused here. Assumes nothing.
use mathlib.Core.Path.{◌≡◌, refl}
use Prim.Native.Nat.{ℕ, ◌≤◌, ◌<◌}
use native.Mathlib.Omega.{arith}
use borrow.Author.Tests.{le-leb, lt-leb}
use Rattle.text.specs.Limits.{Limits}
use Rattle.wire.specs.Machine.{State, going, over, feed, taken, cut_off}
use Rattle.wire.proofs.Fits.{Fits}

pub taken_under : (L : Limits) (i : ℕ) (s : State) (b : ℕ) → Fits i s → i < L.bytes → taken L s b ≡ feed L s b
unfolding taken feed
taken_under L i (over a) b k h = refl
taken_under L i (going j n os spot) b k h = rw (lt-leb L.bytes j (omega (arith, k.0)))

pub taken_over : (L : Limits) (i : ℕ) (s : State) (b : ℕ) → Fits i s → L.bytes ≤ i → taken L s b ≡ cut_off s
unfolding taken
taken_over L i (over a) b k h = refl
taken_over L i (going j n os spot) b k h = rw (le-leb L.bytes j (omega (arith, k.0)))
