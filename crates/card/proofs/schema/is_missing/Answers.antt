-- `card::schema::is_missing` meets its contract, by the property's number and its name. Assumes nothing.
use Prim.Native.Nat.{◌/◌, ◌%◌}
use mathlib.Core.Path.{ap, ◌∙◌}
use mathlib.Core.Bool.{not}
use native.Mathlib.Omega.{arith}
use lib.ListN.{get_or}
use borrow.Author.Tests.{eq-eqb, ne_eqb}
use Rattle.text.specs.Doc.{Name, members_of, seek, is_there}
use Rattle.card.proofs.Known.Columns.{lent_spelled, lent_short, lent_length}
use Rattle.card.proofs.schema.is_missing.Goals as goal

pub offset_bounds-on-i : goal.offset_bounds-on-i
offset_bounds-on-i c = omega (arith, c.requires.0.numbers_are.long, c.requires.1)

pub bounds-on-i : goal.bounds-on-i
bounds-on-i c = omega (arith, c.requires.0.numbers_are.long, c.requires.1)

pub returns-then-code-ne1 : goal.returns-then-code-ne1
returns-then-code-ne1 c =
    λ f s.
    let a = c.args in
    let p = c.requires in
    rw (← (p.0.numbers_are.code a.i p.1).must, ne_eqb (get_or a.on.now.numbers.now a.i 0 / 32768 % 2) 1 c.if-code-ne1.true)

pub sized_word-requires : goal.sized_word-requires
sized_word-requires c = omega (arith, lent_length c.requires.0, c.requires.1, lent_short c.requires.0 c.args.i c.requires.1)

pub returns : goal.returns
returns c =
    λ f s.
    let a = c.args in
    let p = c.requires in
    rw (← (p.0.numbers_are.code a.i p.1).must, eq-eqb (get_or a.on.now.numbers.now a.i 0 / 32768 % 2) 1 c.if-code-ne1.false)
    (ap not (c.has.ensures f s ∙ ap (λ (n : Name). is_there (seek n (members_of a.on.now.text.now f))) (c.sized_word.ensures ∙ lent_spelled p.0 a.i p.1)))
