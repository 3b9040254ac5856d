-- Localizing a text: the card's own refusal comes first (`given_iff`), and else the answer is that of its document (`passed_so`).
-- Assumes nothing.
use mathlib.Core.Path.{◌≡◌, refl, sym, ◌∙◌}
use mathlib.Core.Logic.{◌↔◌}
use mathlib.Core.List.{List}
use Prim.Native.Nat.{ℕ}
use Rattle.text.specs.Limits.{Limits}
use Rattle.text.specs.Tree.{Forest}
use Rattle.text.specs.Doc.{Name, doc_of}
use Rattle.contact.specs.Verdict.{Judged, passed, failed, judged_of}
use Rattle.contact.specs.Localize.{denied, localized_doc, localized_judged, localized_of}
use Rattle.contact.specs.Places.{key_place}
use Rattle.contact.specs.Conditions.{BrokenCondition}
use Rattle.contact.specs.declared.CardRefusal.{CardRefusal}
use Rattle.contact.specs.declared.LocalRefusal.TheVariants.{Given}
use Rattle.contact.proofs.Patching.Refused.{refused_iff, broken_second}

module _ (L : Limits) (words room : ℕ) (text : List ℕ) (lang : Name) where
  pub passed_so : (f : Forest) → judged_of L words text ≡ passed f → localized_of L words room text lang ≡ localized_doc L words room (key_place text f lang) (doc_of text f) lang
  unfolding localized_of localized_judged
  passed_so f e = rw e

  pub failed_so : (r : CardRefusal) → judged_of L words text ≡ failed r → localized_of L words room text lang ≡ denied (Given r)
  unfolding localized_of localized_judged
  failed_so r e = rw e

  -- no condition of a patch calls for the card's own refusal
  not_given : (n : ℕ) (f : Forest) (r : CardRefusal) → ¬ BrokenCondition L words room (key_place text f lang) (doc_of text f) lang n (Given r)
  not_given n f r b = elim (broken_second L words room (key_place text f lang) (doc_of text f) lang b) [ ]

  pub given_iff : (r : CardRefusal) → (localized_of L words room text lang ≡ denied (Given r)) ↔ (judged_of L words text ≡ failed r)
  given_iff r = (λ e. go (judged_of L words text) refl e, failed_so r)
    where
      go : (j : Judged) → judged_of L words text ≡ j → localized_of L words room text lang ≡ denied (Given r) → judged_of L words text ≡ failed r
      go (passed f) k e = absurd (not_given _ f r ((refused_iff L words room (key_place text f lang) (doc_of text f) lang (Given r)).0 (sym (passed_so f k) ∙ e)).broken)
      go (failed q) k e = let h : denied (Given q) ≡ denied (Given r) = sym (failed_so q k) ∙ e in cc
