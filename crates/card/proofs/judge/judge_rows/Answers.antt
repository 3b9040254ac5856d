-- `card::judge::judge_rows` meets its contract. Assumes nothing.
use Rattle.std.specs.Prelude.{Err}
use mathlib.Core.Path.{refl, sym, ap, ◌∙◌}
use Rattle.contact.specs.Verdict.{fault_of}
use Rattle.contact.specs.declared.CardRefusal.TheVariants.{Card}
use Rattle.card.specs.Walk.{sheet_number, found_of}
use Rattle.card.proofs.Judging.Verdict.{card_value, card_kinds, card_place}
use Rattle.card.proofs.judge.judge_rows.Goals as goal

pub card_breach-requires : goal.card_breach-requires
card_breach-requires c =
    let (L, f, card) = c.requires in
    (f, card_value card, card_kinds card)

pub returns-in-None : goal.returns-in-None
returns-in-None c = λ L f h. rw (sym (c.card_breach.ensures f (card_value h) (card_kinds h)) ∙ ap found_of c.in-None.is) (refl, refl)

pub returns-in-Some : goal.returns-in-Some
returns-in-Some c =
    λ L f h.
    let card-breach = c.card_breach in
    let value_start = c.value_start-place in
    let e = (sym (card-breach.ensures f (card_value h) (card_kinds h)) ∙ ap found_of c.in-Some.is) in
    rw e (
      ap Err c.from.ensures
          ∙ ap (λ x. Err (Card x)) (c.fault_of.ensures
          ∙ ap (fault_of (sheet_number c.in-Some.broken)) (value_start.ensures ∙ sym (card_place h c.in-Some.row (sheet_number c.in-Some.broken) e))),
      c.fill.ensures.after (λ y e. e),
    )
