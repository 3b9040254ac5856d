-- `card::inside::has_string` meets its contract. Assumes nothing.
use mathlib.Core.Path.{◌∙◌}
use Rattle.card.proofs.Judging.Values.{seek_in, row_of, content_in, content_row, content_string}
use Rattle.card.proofs.inside.has_string.Goals as goal

pub returns : goal.returns
returns c =
    λ f s.
    let a = c.args in
    let text = a.on.now.text.now in
    let o = seek_in text a.name.now f in
    let find = c.find-found in
    c.is_string_at.ensures (content_in o) (content_row text a.on.now.table.now find.result o
    (row_of text a.on.now.table.now a.end a.name.now f find.result (find.ensures f s)))
    ∙ content_string a.content.now o
