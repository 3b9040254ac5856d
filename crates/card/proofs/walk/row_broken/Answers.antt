-- `card::walk::row_broken` meets its contract. Assumes nothing.
use mathlib.Core.Path.{◌≡◌, sym, ◌∙◌}
use native.Mathlib.Omega.{arith}
use mathlib.Core.Bool.{Bool}
use Rattle.text.specs.Tree.{Forest}
use Rattle.text.specs.Firsts.{kind_at, inside_at}
use Rattle.text.proofs.Promise.{first_row_lem}
use Rattle.contact.specs.Schema.{object_of, fits}
use Rattle.card.specs.Types.{type_at}
use Rattle.card.specs.Rows.{ValueAt}
use Rattle.card.proofs.Judging.Values.{value_members, value_room}
use Rattle.card.proofs.Judging.Walk.{row_unfit, row_object, row_other}
use Rattle.card.proofs.walk.row_broken.Goals as goal

-- what the value's kind was asked
fit : (c : goal.Then-not-kind_fits) {b : Bool} → c.kind_fits.result ≡ b → (f : Forest)
    → let a = c.args in ValueAt a.on.now.table.now a.row f → fits (type_at a.code) (kind_at f) ≡ b
fit c e f v = sym (rw (c.type_of-ty.ensures, c.kind.ensures, (first_row_lem f v.some v.stands).kind) at c.kind_fits.ensures) ∙ e

pub returns-then-not-kind_fits : goal.returns-then-not-kind_fits
returns-then-not-kind_fits c =
    λ f v k.
    let a = c.args in
    row_unfit a.on.now.text.now f v.some (type_at a.code) a.key (fit c c.if-not-kind_fits.true f v)

pub object_broken-requires : goal.object_broken-requires
object_broken-requires c =
    let a = c.args in
    let (f, v) = c.requires.1 in
    (c.requires.0, (inside_at f, value_members a.on.now.text.now f v c.next_row-end.ensures (omega (arith, value_room a.on.now.text.now f v))))

-- what the value's kind was asked
fit_2 : (c : goal.After-object_broken) {b : Bool} → c.kind_fits.result ≡ b → (f : Forest)
    → let a = c.args in ValueAt a.on.now.table.now a.row f → fits (type_at a.code) (kind_at f) ≡ b
fit_2 c e f v = sym (rw (c.type_of-ty.ensures, c.kind.ensures, (first_row_lem f v.some v.stands).kind) at c.kind_fits.ensures) ∙ e

pub returns-in-As : goal.returns-in-As
returns-in-As c =
    λ f v k.
    let a = c.args in
    let kind_fits = c.kind_fits in
    let ty : type_at c.args.code ≡ object_of c.in-As.o = rw (c.in-As.is, c.type_of-ty.ensures) at c.role_of.ensures in
    rw ty
    (c.object_broken.ensures (inside_at f)
    (value_members a.on.now.text.now f v c.next_row-end.ensures (omega (arith, value_room a.on.now.text.now f v)))
    ∙ row_object a.on.now.text.now f v.some c.in-As.o a.key
    (rw ty at (fit_2 c c.if-not-kind_fits.false f v)))

-- what the value's kind was asked
fit_3 : (c : goal.After-value_broken) {b : Bool} → c.kind_fits.result ≡ b → (f : Forest)
    → let a = c.args in ValueAt a.on.now.table.now a.row f → fits (type_at a.code) (kind_at f) ≡ b
fit_3 c e f v = sym (rw (c.type_of-ty.ensures, c.kind.ensures, (first_row_lem f v.some v.stands).kind) at c.kind_fits.ensures) ∙ e

pub returns-in_default : goal.returns-in_default
returns-in_default c =
    λ f v k.
    let a = c.args in
    c.value_broken.ensures f v k ∙ row_other a.on.now.text.now f v.some c.role_of.result (type_at a.code) a.key
    (rw c.type_of-ty.ensures at c.role_of.ensures) c.in_default.not-As (fit_3 c c.if-not-kind_fits.false f v)
