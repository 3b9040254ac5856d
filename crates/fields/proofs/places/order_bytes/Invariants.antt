-- `fields::places::order_bytes` meets its contract: bytes that both runs have decide nothing, and at the first difference they decide. Assumes nothing.
use mathlib.Core.Path.{◌≡◌}
use Prim.Native.Nat.{◌-◌}
use lib.ListN.{length, drop}
use Rattle.laws.specs.Order.{order_of}
use Rattle.fields.proofs.places.order_bytes.Given as goal

abbrev pub invariant-loop-i : goal.invariant-loop-i
invariant-loop-i l = order_of (drop l.i l.a) (drop l.i l.b) ≡ order_of l.a l.b

abbrev pub decreases-loop-i : goal.decreases-loop-i
decreases-loop-i l = length l.a - l.i
