-- `card::types::member_type` meets its contract. Assumes nothing.
use mathlib.Core.Path.{ap, ◌∙◌}
use Rattle.text.specs.Doc.{doc_of}
use Rattle.contact.specs.Schema as S
use Rattle.contact.specs.Judge.{chosen}
use Rattle.card.proofs.types.member_type.Goals as goal

pub returns : goal.returns
returns c =
    λ f v.
    let a = c.args in
    c.choose.ensures f v
    ∙ ap (λ (t : S.Ty). chosen t (doc_of a.on.now.text.now f)) (rw (c.name_start.ensures, c.name_end.ensures) at c.type_below-stands.ensures)
