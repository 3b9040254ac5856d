-- `pieces::reader::within` meets its contract by its tests. Assumes nothing.
use mathlib.Core.Path.{◌≡◌}
use Prim.Native.Nat.{◌-◌}
use native.Mathlib.Omega.{arith}
use borrow.Author.Tests.{lt-ltb, le-ltb}
use Rattle.pieces.proofs.reader.within.Goals as goal

pub returns-then-done-ge-BYTES : goal.returns-then-done-ge-BYTES
returns-then-done-ge-BYTES c =
    let a = c.args in
    let none : 1048576 - a.place ≡ 0 = omega arith in
    rw (none, le-ltb a.size 0 (omega arith))

pub returns-then-size-room : goal.returns-then-size-room
returns-then-size-room c =
    let a = c.args in
    rw (lt-ltb a.size (1048576 - a.place) (omega arith))

pub returns : goal.returns
returns c =
    let a = c.args in
    rw (le-ltb a.size (1048576 - a.place) (omega arith))
