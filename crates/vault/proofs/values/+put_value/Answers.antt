-- `vault::values::put_value` meets its contract: the bracket, then item by item what stands before a value and the value, and the
-- closing bracket. It calls itself one container deeper, so the depth that is left is the measure. Assumes nothing.
use Rattle.std.proofs.Common.{ℕ, ◌-◌, ap, ◌∙◌}
use Rattle.laws.specs.Lists.{part_of}
use Rattle.packing.specs.Unpacked.{boxes, value_of}
use Rattle.vault.specs.Laid.{bracket_of}
use Rattle.vault.proofs.Members.{value_simple, value_none, value_shut, value_box}
use Rattle.vault.proofs.Members.{onward_start, onward_none, onward_bad, onward_on, onward_end}
use Rattle.vault.proofs.values.+put_value.Goals as goal

pub returns-then-field-lt-ARRAY : goal.returns-then-field-lt-ARRAY
returns-then-field-lt-ARRAY t c =
    let a = c.args in
    let f = a.field in
    rw (value_simple f.tag (part_of a.packed.now f.from f.end) a.depth c.if-field-lt-ARRAY.true) (rw c.content.ensures at c.put_simple.ensures)

pub returns-then-field-gt-OBJECT : goal.returns-then-field-gt-OBJECT
returns-then-field-gt-OBJECT t c =
    let a = c.args in
    let f = a.field in
    value_none f.tag (part_of a.packed.now f.from f.end) a.depth c.if-field-gt-OBJECT.true

pub returns-then-depth-eq0 : goal.returns-then-depth-eq0
returns-then-depth-eq0 t c =
    let a = c.args in
    let f = a.field in
    ap (λ (d : ℕ). value_of d f.tag (part_of a.packed.now f.from f.end)) c.if-depth-eq0.true
    ∙ value_shut f.tag (part_of a.packed.now f.from f.end) c.if-field-lt-ARRAY.false c.if-field-gt-OBJECT.false

pub loop-i-init : goal.loop-i-init
loop-i-init t c =
    let a = c.args in
    let f = a.field in
    let p = c.put_byte-p in
    onward_start a.packed.now (bracket_of f.tag) (value_of (a.depth - 1)) f.from f.end c.requires.0 p.new.out p.result

-- no item stands at a place
pub returns-in_err-inner : goal.returns-in_err-inner
returns-in_err-inner t c =
    let a = c.args in
    let f = a.field in
    let b = bracket_of f.tag in
    rw c.from_residual.ensures
    (value_box f.tag (part_of a.packed.now f.from f.end) a.depth c.if-depth-eq0.false c.if-field-lt-ARRAY.false c.if-field-gt-OBJECT.false
    ∙ ap (boxes b)
    (onward_none a.packed.now b (value_of (a.depth - 1)) f.from f.end c.requires.1 c.loop-i.invariant c.loop-i-test.true c.in_err-inner.ensures))

-- an item's value is none
pub returns-in_err-p : goal.returns-in_err-p
returns-in_err-p t c =
    let a = c.args in
    let f = a.field in
    let b = bracket_of f.tag in
    rw c.from_residual-in_err-p.ensures
    (value_box f.tag (part_of a.packed.now f.from f.end) a.depth c.if-depth-eq0.false c.if-field-lt-ARRAY.false c.if-field-gt-OBJECT.false
    ∙ ap (boxes b)
    (onward_bad a.packed.now b (value_of (a.depth - 1)) f.from f.end c.requires.1 c.loop-i.invariant c.loop-i-test.true
    c.in_ok-inner.ensures c.in_err-p.ensures))

pub loop-i-preserved : goal.loop-i-preserved
loop-i-preserved t c =
    let a = c.args in
    let f = a.field in
    onward_on a.packed.now (bracket_of f.tag) (value_of (a.depth - 1)) f.from f.end c.requires.1 c.loop-i.invariant
    c.loop-i-test.true c.in_ok-inner.ensures c.in_ok-p.ensures

pub returns : goal.returns
returns t c =
    let a = c.args in
    let f = a.field in
    rw (value_box f.tag (part_of a.packed.now f.from f.end) a.depth c.if-depth-eq0.false c.if-field-lt-ARRAY.false c.if-field-gt-OBJECT.false)
    (onward_end a.packed.now (bracket_of f.tag) (value_of (a.depth - 1)) f.from f.end c.requires.1 c.loop-i.invariant c.loop-i-test.false
    (rw c.open_of.ensures at c.put_byte-p.ensures) (rw c.close_of.ensures at c.put_byte.ensures))
