-- `card::schema::is_lacking` meets its contract: a search through the object type's properties. The measure is those left. Assumes nothing.
use mathlib.Core.Path.{sym, ◌∙◌}
use native.Mathlib.Omega.{arith}
use Rattle.text.specs.Doc.{members_of}
use Rattle.contact.specs.Schema.{properties}
use Rattle.card.proofs.Known.Columns.{lines_length}
use Rattle.card.proofs.Known.Search.{left_hit, left_on, left_end, lacking_first}
use Rattle.card.proofs.schema.is_lacking.Goals as goal

pub is_missing-requires : goal.is_missing-requires
is_missing-requires c =
    let p = c.requires in
    let s = c.lines_of-own.ensures in
    (p, omega (arith, s.within, lines_length, c.loop-i-test.true))

pub returns-then-is_missing : goal.returns-then-is_missing
returns-then-is_missing c =
    λ f s.
    let a = c.args in
    left_hit _ _ _ _ _ _ _ _ c.lines_of-own.ensures (c.loop-i.invariant f s) c.loop-i-test.true (sym (c.is_missing.ensures f s) ∙ c.if-is_missing.true)
    ∙ lacking_first (members_of a.on.now.text.now f) (properties a.object.of)

pub loop-i-preserved : goal.loop-i-preserved
loop-i-preserved c =
    λ f s.
    left_on _ _ _ _ _ _ _ _ c.lines_of-own.ensures (c.loop-i.invariant f s) c.loop-i-test.true (sym (c.is_missing.ensures f s) ∙ c.if-is_missing.false)

pub returns : goal.returns
returns c =
    λ f s.
    let a = c.args in
    left_end _ _ _ _ _ _ _ _ c.lines_of-own.ensures (c.loop-i.invariant f s) c.loop-i-test.false ∙ lacking_first (members_of a.on.now.text.now f) (properties a.object.of)
