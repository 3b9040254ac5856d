-- Demand 3, of what localizing leaves, from the theorems of Patching. Assumes nothing.
use Rattle.std.specs.Prelude.{Result, Err}
use Prim.Native.Nat.{ℕ, ◌≤◌, ◌<◌}
use native.Mathlib.Omega.{arith}
use mathlib.Core.Path.{◌≡◌, refl, sym, ap, ap₂, ◌∙◌, subst}
use mathlib.Core.Bool.{true}
use mathlib.Core.Logic.{◌⊎◌, ◌↔◌}
use mathlib.Core.List.{List}
use lib.ListN.{length}
use Rattle.text.specs.Whole.{table_of}
use Rattle.text.specs.Limits.{Limits}
use Rattle.text.specs.Text.{bytes}
use Rattle.text.specs.Tree.{Forest}
use Rattle.text.specs.Sheet.{numbers, Within}
use Rattle.text.specs.Grammar.{root_of}
use Rattle.text.specs.Doc.{Name, Doc, Members, doc_of}
use Rattle.text.specs.Writing.{written}
use Rattle.text.proofs.Readable.{readable_good}
use Rattle.text.proofs.Readback.Documents.{text_shorter}
use Rattle.text.proofs.Grammar.Accepted.{accepts}
use Rattle.contact.specs.Verdict.{refused_card, Judged, passed, failed, judged_of, sheet_of_judged, paper_of_verdict}
use Rattle.contact.specs.Localize.{refused_local, key_refusal, Outcome, done, denied, start, patched_doc, localized_doc, localized_of, sheet_of_outcome, table_of_outcome, output_of_outcome, answer_of_outcome, paper_of_localized}
use Rattle.contact.specs.Places.{KeyStands, key_place}
use Rattle.contact.specs.Conditions.{PatchOf, LeftOutOf, SecondNumber, inside, BrokenCondition, Applicable, FirstBroken, Smallest}
use Rattle.contact.specs.Services.{judge, localize, served}
use Rattle.contact.specs.Judging.{CardText}
use Rattle.contact.specs.Demands.{Passes, WouldBe, Localization}
use Rattle.contact.specs.Contract.{Localizes}
use Rattle.contact.specs.declared.CardRefusal.{CardRefusal}
use Rattle.contact.specs.declared.LocalRefusal.{LocalRefusal}
use Rattle.contact.specs.declared.LocalRefusal.TheVariants.{Inner}
use Rattle.contact.proofs.Patching.Public.{passed_so, failed_so}
use Rattle.contact.proofs.Patching.Entering.{Accepted, late_applicable, unfit_of, key_second, key_smallest, smallest_key}
use Rattle.contact.proofs.Patching.Faults.{breaks_there}
use Rattle.contact.proofs.Patching.Places.{key_places}
use Rattle.contact.proofs.Patching.Start.{start_left, start_only}
use Rattle.contact.proofs.Patching.Refused.{AcceptedCard, accepted_iff, accepted_unbroken, refused_iff, patch_of, smallest_of, smallest_on, broken_number, broken_second}
use Rattle.contact.proofs.Patching.Fine.{fine}
use Rattle.contact.proofs.Patching.Together.{patched_card}
use Rattle.contact.proofs.Patching.Readback.{passed_tree, card_writable, card_written, card_shorter, card_fewer, never_longer, inner_number}
use Rattle.contact.proofs.Judging.{read_documents}
use Rattle.contact.proofs.Demands.Reading.{passed_card}
use Rattle.contact.proofs.Demands.Sheet.{line_of, local_line, local_some, Late, early, late_short, late_inner, late, second_sheet, one_second, same_number, same_second}

-- the card that the conditions speak of
module _ (L : Limits) (unique : L.unique ≡ true) (words : ℕ) (t : List ℕ) (lang : Name) (f : Forest) (pass : judged_of L words t ≡ passed f) where
  pub localize_would : (ms : Members) → PatchOf (doc_of t f) lang ms → Applicable (start (doc_of t f)) ms → WouldBe L words t f ms
  localize_would ms patch u =
      let h = fine (start (doc_of t f)) ms u in
      record {
        patched = patched_card (doc_of t f) lang ms patch (card_writable L unique words t f pass) u;
        writes = card_written L unique words t f pass lang ms patch u;
        shorter = card_shorter L unique words t f pass lang ms patch h.no_clash h.parents;
        fewer = card_fewer L unique words t f pass lang ms patch h.no_clash h.parents;
        compact = λ M u g a e.
            let same = ap (λ (d : Doc). length (written d)) e in
            omega (arith, text_shorter M u g (length u) ((accepts M u g).1 a), same);
      }

module _ (L : Limits) (unique : L.unique ≡ true) (words room : ℕ) (t : List ℕ) (lang : Name) where
  abbrev outcome : Outcome
  outcome = localized_of L words room t lang

  pub localize_own : ¬ Passes (served L) (judge t words) → (served L (localize t lang words room)).answer ≡ (served L (judge t words)).answer
  unfolding served sheet_of_outcome paper_of_localized answer_of_outcome sheet_of_judged paper_of_verdict refused_local
  localize_own not = go (judged_of L words t) refl
    where
      go : (j : Judged) → judged_of L words t ≡ j → sheet_of_outcome outcome ≡ sheet_of_judged (judged_of L words t)
      go (failed r) e = rw (failed_so L words room t lang r e, e)
      go (passed f) e = absurd (not (rw e))

  -- a card that passes
  module _ (f : Forest) (pass : judged_of L words t ≡ passed f) where
    abbrev place : Name → ℕ
    place = key_place t f lang

    pub of_doc : (o : Outcome) → outcome ≡ o → localized_doc L words room place (doc_of t f) lang ≡ o
    of_doc o e = sym (passed_so L words room t lang f pass) ∙ e

    localization : (text : List ℕ) (g : Forest) → outcome ≡ done text g → Localization L (served L) words room t f lang
    unfolding served sheet_of_outcome paper_of_localized answer_of_outcome table_of_outcome output_of_outcome table_of
    localization text g e =
        let c : AcceptedCard L words room place (doc_of t f) lang text g = (accepted_iff L words room place (doc_of t f) lang text g).0 (of_doc (done text g) e) in
        let ms : Members = c.members in
        let a : Accepted L words room place (start (doc_of t f)) ms text g = c.accepted in
        let w : WouldBe L words t f ms = localize_would L unique words t lang f pass ms c.patch (late_applicable L words room place (start (doc_of t f)) ms (λ n r b. absurd (a.unbroken n r b))) in
        let k : CardText L words text g = passed_card L words text g a.reads in
        let tree : g ≡ root_of w.writes.back.derives = passed_tree w.writes g (rw a.writes at a.reads) in
        record {
          members = ms;
          patch = c.patch;
          would_be = w;
          text = text;
          writes = a.writes;
          tree = g;
          card = k;
          says = (read_documents L words text g k.readable k.document).0 k.says ∙ ap₂ doc_of a.writes tree ∙ w.writes.back.says;
          left = rw e;
          as_read = rw (e, readable_good L words text g k.readable);
        }

    pub localize_patched : Passes (served L) (localize t lang words room) → Localization L (served L) words room t f lang
    unfolding served sheet_of_outcome paper_of_localized answer_of_outcome
    localize_patched = go outcome refl
      where
        go : (o : Outcome) → outcome ≡ o → (sheet_of_outcome o).number ≡ 0 → Localization L (served L) words room t f lang
        go (done text g) e z = localization text g e
        go (denied r) e z = absurd (omega (arith, local_some (refused_local r).number (line_of (local_line r))))

    pub localize_accepted : Passes (served L) (localize t lang words room) ↔ ((n : ℕ) (r : LocalRefusal) → ¬ BrokenCondition L words room place (doc_of t f) lang n r)
    unfolding served sheet_of_outcome paper_of_localized answer_of_outcome
    localize_accepted = (λ z. unbroken outcome refl z, λ u. whole outcome refl u)
      where
        unbroken : (o : Outcome) → outcome ≡ o → (sheet_of_outcome o).number ≡ 0 → (n : ℕ) (r : LocalRefusal) → ¬ BrokenCondition L words room place (doc_of t f) lang n r
        unbroken (done text g) e z = accepted_unbroken L words room place (doc_of t f) lang ((accepted_iff L words room place (doc_of t f) lang text g).0 (of_doc (done text g) e))
        unbroken (denied r) e z = absurd (omega (arith, local_some (refused_local r).number (line_of (local_line r))))

        whole : (o : Outcome) → outcome ≡ o → ((n : ℕ) (r : LocalRefusal) → ¬ BrokenCondition L words room place (doc_of t f) lang n r) → (sheet_of_outcome outcome).number ≡ 0
        whole (done text g) e u = rw e
        whole (denied r) e u = absurd (u (refused_local r).number r ((refused_iff L words room place (doc_of t f) lang r).0 (of_doc (denied r) e)).broken)

    pub localize_refused : (n second : ℕ) → 0 < n
        → ((served L (localize t lang words room)).answer ≡ numbers n second 0)
        ↔ ((r : LocalRefusal) × SecondNumber r second × Smallest (BrokenCondition L words room place (doc_of t f) lang) n r)
    unfolding served sheet_of_outcome paper_of_localized answer_of_outcome
    localize_refused n second positive = (λ e. go outcome refl e, back)
      where
        go : (o : Outcome) → outcome ≡ o → sheet_of_outcome o ≡ numbers n second 0
            → (r : LocalRefusal) × SecondNumber r second × Smallest (BrokenCondition L words room place (doc_of t f) lang) n r
        go (done text g) e q = absurd (omega (arith, same_number q))
        go (denied r) e q =
            let s : Smallest (BrokenCondition L words room place (doc_of t f) lang) n r =
            rw (same_number q) at ((refused_iff L words room place (doc_of t f) lang r).0 (of_doc (denied r) e)) in
            (r, subst (SecondNumber r) (same_second q) (broken_second L words room place (doc_of t f) lang s.broken), s)

        back : (r : LocalRefusal) × SecondNumber r second × Smallest (BrokenCondition L words room place (doc_of t f) lang) n r → sheet_of_outcome outcome ≡ numbers n second 0
        back (r, x, s) =
            let number : (refused_local r).number ≡ n = broken_number L words room place (doc_of t f) lang s.broken in
            let e = (refused_iff L words room place (doc_of t f) lang r).1 (rw (sym number) at s) in
            rw (passed_so L words room t lang f pass, e) (second_sheet x ∙ ap (λ (m : ℕ). numbers m second 0) number)

    -- 22 to 26 by the key
    abbrev AtFault : (n p : ℕ) → Type 0
    AtFault n p =
        (ms : Members) × (card : Doc) × (key : Name) × PatchOf (doc_of t f) lang ms × LeftOutOf (bytes "localizations") (doc_of t f) card
        × FirstBroken card ms n key × KeyStands t f lang key p

    pub localize_key : CardText L words t f → (n p : ℕ) → Within 22 26 n
        → ((served L (localize t lang words room)).answer ≡ numbers n p 0)
        ↔ AtFault n p
    localize_key c n p (low, high) = (λ e. to ((localize_refused n p (omega arith)).0 e), λ x. (localize_refused n p (omega arith)).1 (from x))
      where
        to : (r : LocalRefusal) × SecondNumber r p × Smallest (BrokenCondition L words room place (doc_of t f) lang) n r
            → AtFault n p
        to (r, x, s) =
            let (ms, patch) = patch_of L words room place (doc_of t f) lang s.broken (omega arith) in
            let (key, b, is) = smallest_key L words room place (start (doc_of t f)) ms n r high (smallest_on L words room place (doc_of t f) lang ms patch s) in
            let e : p ≡ place key = one_second (subst (λ (q : LocalRefusal). SecondNumber q p) is x) (key_second (place key) b.smallest.breaks) in
            (ms, start (doc_of t f), key, patch, start_left (doc_of t f) lang ms patch, b, (key_places L unique words t f c lang ms patch key (breaks_there b.smallest.breaks) p).1 e)

        from : AtFault n p
            → (r : LocalRefusal) × SecondNumber r p × Smallest (BrokenCondition L words room place (doc_of t f) lang) n r
        from (ms, card, key, patch, left, first, k) =
            let b = subst (λ (d : Doc). FirstBroken d ms n key) (start_only left) first in
            let e : p ≡ place key = (key_places L unique words t f c lang ms patch key (breaks_there b.smallest.breaks) p).0 k in (
              key_refusal n (place key),
              subst (SecondNumber (key_refusal n (place key))) (sym e) (key_second (place key) b.smallest.breaks),
              smallest_of L words room place (doc_of t f) lang ms patch (key_smallest L words room place (start (doc_of t f)) ms b),
            )

    -- the refusal itself
    pub refused_answer : (a : Result (ℕ × ℕ) LocalRefusal) (x o : List ℕ) → Localizes L words room t lang a x o → (r : LocalRefusal)
        → (a ≡ Err r) ↔ ((n : ℕ) × Smallest (BrokenCondition L words room place (doc_of t f) lang) n r)
    unfolding answer_of_outcome
    refused_answer a x o l r =
        let is : answer_of_outcome (localized_doc L words room place (doc_of t f) lang) ≡ a = ap answer_of_outcome (sym (passed_so L words room t lang f pass)) ∙ sym l.answer in
        (λ e. (_, (refused_iff L words room place (doc_of t f) lang r).0 (denied_so (localized_doc L words room place (doc_of t f) lang) (is ∙ e))), λ (n, s). sym is ∙ back n s)
      where
        denied_so : (o : Outcome) → answer_of_outcome o ≡ Err r → o ≡ denied r
        denied_so (done text g) e = let z : ◌≡◌ {A = ℕ} 0 1 = cc in absurd (omega arith)
        denied_so (denied q) e = let k : q ≡ r = cc in ap (λ (y : LocalRefusal). denied y) k

        back : (n : ℕ) → Smallest (BrokenCondition L words room place (doc_of t f) lang) n r → answer_of_outcome (localized_doc L words room place (doc_of t f) lang) ≡ Err r
        back n s =
            let number : (refused_local r).number ≡ n = broken_number L words room place (doc_of t f) lang s.broken in
            ap answer_of_outcome ((refused_iff L words room place (doc_of t f) lang r).1 (rw (sym number) at s))

    -- 28 and judging
    pub localize_again : (ms : Members) → PatchOf (doc_of t f) lang ms → (number : ℕ) → (served L (localize t lang words room)).answer ≡ numbers 28 number 0
        → (served L (judge (written (patched_doc (doc_of t f) ms)) words)).answer.number ≡ number
    unfolding served sheet_of_judged paper_of_verdict
    localize_again ms patch number e =
        let (r, x, s) = (localize_refused 28 number (omega arith)).0 e in
        let (q, judged, is) = unfit_of L words room place (start (doc_of t f)) ms (smallest_on L words room place (doc_of t f) lang ms patch s).broken in
        let inner : SecondNumber (Inner q) number = rw is at x in
        rw judged (inner_second inner)
      where
        inner_second : {q : CardRefusal} {m : ℕ} → SecondNumber (Inner q) m → (refused_card q).number ≡ m
        inner_second inside = refl

  -- 27 and 28
  localize_late : (n second : ℕ) → 27 ≤ n → (served L (localize t lang words room)).answer ≡ numbers n second 0
      → (r : LocalRefusal) × (outcome ≡ denied r) × (refused_local r ≡ numbers n second 0) × Late r
  unfolding served sheet_of_outcome paper_of_localized answer_of_outcome
  localize_late n second w = go outcome refl
    where
      go : (o : Outcome) → outcome ≡ o → sheet_of_outcome o ≡ numbers n second 0 → (r : LocalRefusal) × (outcome ≡ denied r) × (refused_local r ≡ numbers n second 0) × Late r
      go (done text g) e q = absurd (omega (arith, same_number q))
      go (denied r) e q = (r, e, q, late r)

  pub localize_room : (needed : ℕ) → (served L (localize t lang words room)).answer ≡ numbers 27 needed 0 → (room < needed) × (needed ≤ length t)
  unfolding refused_local
  localize_room needed e = let (r, k, q, l) = localize_late 27 needed (omega arith) e in go r k q l
    where
      go : (r : LocalRefusal) → outcome ≡ denied r → refused_local r ≡ numbers 27 needed 0 → Late r → (room < needed) × (needed ≤ length t)
      go r k q (early r₁ l) = absurd (omega (arith, same_number q))
      go r k q (late_short n) = rw (same_second q) at (never_longer L words room unique t lang n k)
      go r k q (late_inner x) = absurd (omega (arith, same_number q))

  pub localize_inner : (number : ℕ) → (served L (localize t lang words room)).answer ≡ numbers 28 number 0 → (number ≡ 5) ⊎ Within 11 14 number
  unfolding refused_local
  localize_inner number e = let (r, k, q, l) = localize_late 28 number (omega arith) e in go r k q l
    where
      go : (r : LocalRefusal) → outcome ≡ denied r → refused_local r ≡ numbers 28 number 0 → Late r → (number ≡ 5) ⊎ Within 11 14 number
      go r k q (early r₁ l) = absurd (omega (arith, same_number q))
      go r k q (late_short n) = absurd (omega (arith, same_number q))
      go r k q (late_inner x) = rw (same_second q) at (inner_number L words room unique t lang x k)
