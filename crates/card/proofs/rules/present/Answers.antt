-- `card::rules::present` meets its contract: the member is found by its name, and its type by the same name. Assumes nothing.
use Rattle.std.specs.Prelude.{None}
use mathlib.Core.Path.{sym, ◌∙◌}
use mathlib.Core.Option.{Option as Maybe}
use Rattle.text.specs.Doc.{Property}
use Rattle.contact.specs.Schema.{properties, type_in}
use Rattle.contact.specs.Rules.{if_fits, present}
use Rattle.card.specs.Types.{type_at}
use Rattle.card.specs.Rows.{ValueOf}
use Rattle.json_reader.proofs.Seeking.{standing}
use Rattle.card.proofs.Judging.Values.{seek_in, content_of, row_of, by_nothing}
use Rattle.card.proofs.Judging.Rules.{fitting, unfitting}
use Rattle.card.proofs.rules.present.Goals as goal

pub returns-in_default : goal.returns-in_default
unfolding present
returns-in_default c =
    λ f s.
    let a = c.args in
    let text = a.on.now.text.now in
    let table = a.on.now.table.now in
    let find = c.find in
    by_nothing content_of text table (seek_in text a.name.now f)
    (row_of text table a.object.end a.name.now f find.result (find.ensures f s))
    (λ (p : Maybe Property). ValueOf text table None (if_fits (type_in (properties a.object.of) a.name.now) p)) c.in_default.is tt

pub returns-then-kind_fits : goal.returns-then-kind_fits
returns-then-kind_fits c =
    λ f s.
    let a = c.args in
    let found = standing (rw c.in-Some.is at (c.find.ensures f s)) in
    let type_in_lem = c.type_in-code in
    fitting a.on.now.text.now a.on.now.table.now a.object.end a.name.now f a.object.of c.in-Some.k found (type_at type_in_lem.result)
    (rw (c.name_start.ensures, c.name_end.ensures) at type_in_lem.ensures)
    (sym (rw (c.type_of.ensures, c.kind.ensures) at c.kind_fits.ensures) ∙ c.if-kind_fits.true)

pub returns : goal.returns
returns c =
    λ f s.
    let a = c.args in
    let found = standing (rw c.in-Some.is at (c.find.ensures f s)) in
    let type_in_lem = c.type_in-code in
    unfitting a.on.now.text.now a.on.now.table.now a.object.end a.name.now f a.object.of c.in-Some.k found (type_at type_in_lem.result)
    (rw (c.name_start.ensures, c.name_end.ensures) at type_in_lem.ensures)
    (sym (rw (c.type_of.ensures, c.kind.ensures) at c.kind_fits.ensures) ∙ c.if-kind_fits.false)
