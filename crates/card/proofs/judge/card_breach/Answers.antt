-- `card::judge::card_breach` meets its contract: what is no object is no card, and what is lent is the catalog, by computation over all of it.
-- Assumes nothing.
use mathlib.Core.Path.{refl, ◌∙◌}
use mathlib.Core.Bool.{true}
use native.Mathlib.Omega.{arith}
use borrow.Author.Tests.{ne_eqb}
use Rattle.laws.specs.Order.{order_of}
use Rattle.text.specs.Doc.{doc_of}
use Rattle.text.proofs.Promise.{first_row_lem}
use Rattle.contact.specs.Schema.{card, object_of, types, record_of}
use Rattle.card.specs.Types.{type_at, item_at}
use Rattle.card.specs.Catalog.{gathered, start_of, lines, all_rules, table_words}
use Rattle.card.proofs.Known.Lent.{numbers_told}
use Rattle.card.proofs.Judging.Walk.{row_unfit, breach_row}
use Rattle.card.proofs.judge.card_breach.Goals as goal

pub returns-then-kind-ne-OBJECT : goal.returns-then-kind-ne-OBJECT
returns-then-kind-ne-OBJECT c =
    λ f v k.
    let text = c.args.text.now in
    let kind = c.kind.ensures ∙ (first_row_lem f v.some v.stands).kind in
    breach_row (object_of card) true 0 11 (doc_of text f) (λ e. omega arith)
    (row_unfit text f v.some (object_of card) true (rw kind at (ne_eqb c.kind.result 7 c.if-kind-ne-OBJECT.true)))

pub breach_at-requires : goal.breach_at-requires
unfolding table_words lines all_rules gathered start_of types record_of type_at item_at order_of
breach_at-requires c = (record { words_are = refl; numbers_are = numbers_told _ refl refl refl refl refl refl refl refl refl refl refl }, c.requires)

pub returns : goal.returns
returns c = λ f v k. c.breach_at.ensures f v k ∙ rw c.object_of-card.ensures
