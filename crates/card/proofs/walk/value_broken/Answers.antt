-- `card::walk::value_broken` meets its contract. Assumes nothing.
use mathlib.Core.Path.{◌≡◌}
use mathlib.Core.Bool.{Bool, cond}
use Rattle.text.specs.Tree.{Forest}
use Rattle.card.specs.Types.{type_at}
use Rattle.card.specs.Rows.{ValueAt}
use Rattle.card.specs.Walk.{value_number}
use Rattle.text.proofs.Promise.{first_row_lem}
use Rattle.card.proofs.walk.value_broken.Goals as goal

pub returns-then-not-key : goal.returns-then-not-key
unfolding value_number
returns-then-not-key c = λ f v k. rw c.if-not-key.true

-- the number, by what the value's row was asked
asked : (c : goal.Then-allows) {b : Bool} → c.allows.result ≡ b → (f : Forest)
    → let a = c.args in ValueAt a.on.now.table.now a.row f
    → cond b 0 13 ≡ value_number (type_at a.code) a.key a.on.now.text.now f
unfolding value_number
asked c e f v =
    let a = c.args in
    let r = first_row_lem f v.some v.stands in
    rw (
      c.if-not-key.false,
      ← r.kind,
      ← r.start,
      ← r.finish,
      ← c.kind.ensures,
      ← c.value_start-from.ensures,
      ← c.value_end-to.ensures,
      ← c.allows.ensures,
      e,
    )

pub returns-then-allows : goal.returns-then-allows
returns-then-allows c = λ f v k. asked c c.if-allows.true f v

-- the number, by what the value's row was asked
asked_2 : (c : goal.Else-allows) {b : Bool} → c.allows.result ≡ b → (f : Forest)
    → let a = c.args in ValueAt a.on.now.table.now a.row f
    → cond b 0 13 ≡ value_number (type_at a.code) a.key a.on.now.text.now f
unfolding value_number
asked_2 c e f v =
    let a = c.args in
    let r = first_row_lem f v.some v.stands in
    rw (
      c.if-not-key.false,
      ← r.kind,
      ← r.start,
      ← r.finish,
      ← c.kind.ensures,
      ← c.value_start-from.ensures,
      ← c.value_end-to.ensures,
      ← c.allows.ensures,
      e,
    )

pub returns : goal.returns
returns c = λ f v k. asked_2 c c.if-allows.false f v
