-- `card::schema::type_in` meets its contract: a search through the object type's properties. The measure is those left. Assumes nothing.
use Prim.Native.Nat.{◌<◌}
use mathlib.Core.Path.{sym, ◌∙◌}
use native.Mathlib.Omega.{arith}
use Rattle.text.specs.Strings.{name_of}
use Rattle.contact.specs.Schema.{properties}
use Rattle.card.specs.Catalog.{count}
use Rattle.card.proofs.Known.Codes.{any_code}
use Rattle.card.proofs.Known.Columns.{lines_length}
use Rattle.card.proofs.Known.Search.{left_starts, left_hit, left_on, left_end, type_first}
use Rattle.card.proofs.schema.type_in.Goals as goal

pub lines_of-own-requires : goal.lines_of-own-requires
lines_of-own-requires c = c.requires.numbers_are

pub loop-i-init : goal.loop-i-init
loop-i-init c = left_starts _ _ _ _ _ _ _ _ c.lines_of-own.ensures

-- the line at hand is one of the catalog
inside : (c : goal.In-loop-i) → c.loop-i.i < count
inside c = omega (arith, c.lines_of-own.ensures.within, lines_length, c.loop-i-test.true)

pub is_property-requires : goal.is_property-requires
is_property-requires c = ((c.requires, inside c), c.peek-first.ensures.value)

-- the line at hand is one of the catalog
found : (c : goal.Then-is_property) → c.loop-i.i < count
found c = omega (arith, c.lines_of-own.ensures.within, lines_length, c.loop-i-test.true)

pub offset_bounds-on-i : goal.offset_bounds-on-i
offset_bounds-on-i c = omega (arith, found c, c.requires.numbers_are.long)

pub bounds-on-i : goal.bounds-on-i
bounds-on-i c = omega (arith, found c, c.requires.numbers_are.long)

-- the line at hand is one of the catalog
read : (c : goal.After-result-1) → c.loop-i.i < count
read c = omega (arith, c.lines_of-own.ensures.within, lines_length, c.loop-i-test.true)

pub returns-then-is_property : goal.returns-then-is_property
returns-then-is_property c =
    let a = c.args in
    (c.requires.numbers_are.code c.loop-i.i (read c)).type
    ∙ left_hit _ _ _ _ _ _ _ _ c.lines_of-own.ensures c.loop-i.invariant c.loop-i-test.true (sym c.is_property.ensures ∙ c.if-is_property.true)
    ∙ type_first (name_of a.on.now.text.now a.s a.e) (properties a.o)

pub loop-i-preserved : goal.loop-i-preserved
loop-i-preserved c = left_on _ _ _ _ _ _ _ _ c.lines_of-own.ensures c.loop-i.invariant c.loop-i-test.true (sym c.is_property.ensures ∙ c.if-is_property.false)

pub returns : goal.returns
returns c =
    let a = c.args in
    any_code ∙ left_end _ _ _ _ _ _ _ _ c.lines_of-own.ensures c.loop-i.invariant c.loop-i-test.false ∙ type_first (name_of a.on.now.text.now a.s a.e) (properties a.o)
