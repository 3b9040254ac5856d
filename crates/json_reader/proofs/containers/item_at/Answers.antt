-- `json_reader::containers::item_at` meets its contract: an element is a value without a name, and a member is what `read_key` says. Assumes nothing.
use mathlib.Core.Path.{refl}
use mathlib.Core.List.{List}
use Prim.Native.Nat.{ℕ}
use native.Mathlib.Omega.{arith}
use Rattle.json_reader.specs.Readers.{limits_in, NameAsks, ItemRead}
use Rattle.json_reader.specs.declared.containers.Container.TheVariants.{Array}
use Rattle.json_reader.specs.declared.members.ItemStart.TheVariants.{At}
use Rattle.json_reader.proofs.Store.{added_none}
use Rattle.json_reader.proofs.Ways.{neither}
use Rattle.json_reader.proofs.containers.item_at.Goals as goal

element : (t names : List ℕ) (end at : ℕ) → NameAsks t names end at → ItemRead Array t end at names names (At 0 0 at end)
element t names end at asks =
    record {
      inside = record { places = record { starts = omega arith; ends = omega arith }; later = omega arith; inside = asks.inside; one = omega arith; spread = omega arith };
      is = λ L depth n done. refl;
      added = rw (neither (limits_in names).unique) (added_none end names asks.room.upto);
    }

pub returns-in-Array : goal.returns-in-Array
returns-in-Array c =
    let s = c in
    let a = s.args in
    rw c.in-Array.is (element a.text.now a.names.now a.end a.at s.requires)

pub returns-in-Object : goal.returns-in-Object
returns-in-Object c = rw c.in-Object.is c.read_key.ensures
