-- `patch::conditions::smaller_key` meets its contract: by the order of the two keys. Assumes nothing.
use Rattle.std.specs.Prelude.{Some}
use Rattle.std.specs.declared.cmp.Ordering.{Ordering}
use mathlib.Core.Path.{◌≡◌, sym}
use mathlib.Core.Bool.{cond}
use Rattle.laws.specs.Order.{is_less}
use Rattle.patch.specs.Conditions.{smaller_row}
use Rattle.patch.proofs.conditions.smaller_key.Goals as goal

pub returns-in_default : goal.returns-in_default
returns-in_default c = rw c.in_default.is

-- by the order of the best so far and the row
asked : (c : goal.In-Less) {o : Ordering}
    → c.name_order.result ≡ o
    → let a = c.args in
    smaller_row a.text.now a.table.now a.row a.best ≡ cond (is_less o) (Some c.in-Some.other) (Some a.row)
asked c e =
    rw (
      c.in-Some.is,
      ← c.key_at.ensures,
      ← c.key_at-2.ensures,
      ← c.name_order.ensures,
      e,
    )

pub returns-in-Less : goal.returns-in-Less
returns-in-Less c = sym (asked c c.in-Less.is)

-- by the order of the best so far and the row
asked_2 : (c : goal.In-Equal) {o : Ordering}
    → c.name_order.result ≡ o
    → let a = c.args in
    smaller_row a.text.now a.table.now a.row a.best ≡ cond (is_less o) (Some c.in-Some.other) (Some a.row)
asked_2 c e =
    rw (
      c.in-Some.is,
      ← c.key_at.ensures,
      ← c.key_at-2.ensures,
      ← c.name_order.ensures,
      e,
    )

pub returns-in-Equal : goal.returns-in-Equal
returns-in-Equal c = sym (asked_2 c c.in-Equal.is)

-- by the order of the best so far and the row
asked_3 : (c : goal.In-Greater) {o : Ordering}
    → c.name_order.result ≡ o
    → let a = c.args in
    smaller_row a.text.now a.table.now a.row a.best ≡ cond (is_less o) (Some c.in-Some.other) (Some a.row)
asked_3 c e =
    rw (
      c.in-Some.is,
      ← c.key_at.ensures,
      ← c.key_at-2.ensures,
      ← c.name_order.ensures,
      e,
    )

pub returns-in-Greater : goal.returns-in-Greater
returns-in-Greater c = sym (asked_3 c c.in-Greater.is)
