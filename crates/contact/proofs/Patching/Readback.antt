-- A document that is written is read back and judged as it is (`written_card`), also where names aren't compared (`judged_loose`). The localized card of a text that passes is no longer and has no more
-- values than the text (`card_shorter`, `card_fewer`), so its text is read back (`card_written`): 27 never asks for more bytes than the text has
-- (`never_longer`), and 28 is 5 or one of 11 to 14 (`inner_number`).
-- Assumes nothing.
use mathlib.Core.Path.{◌≡◌, refl, sym, subst, ◌∙◌}
use mathlib.Core.Bool.{true}
use mathlib.Core.Logic.{◌⊎◌, inl, inr}
use mathlib.Core.List.{List}
use Prim.Native.Nat.{ℕ, ◌*◌, ◌≤◌, ◌<◌}
use native.Mathlib.Nat.{mul-le-mul_left}
use native.Mathlib.Omega.{arith}
use native.Mathlib.Decide.{dec_le}
use borrow.Author.Tests.{le-ltb}
use lib.ListN.{length, get_or}
use Rattle.text.specs.Limits.{Limits, loose, row_words}
use Rattle.text.specs.Tree.{Forest, size, starts_of}
use Rattle.text.specs.Reader.{Read, good, bad}
use Rattle.text.specs.Sheet.{refused}
use Rattle.text.specs.Whole.{read_of, fit_of, whole_of}
use Rattle.text.specs.Grammar.{root_of}
use Rattle.text.specs.Doc.{Name, Doc, Members, doc_of, count_of}
use Rattle.text.specs.Promised.{Promised}
use Rattle.text.specs.Writing.{written}
use Rattle.text.specs.Writable.{Lexeme, Writable, depth_in, ReadsBack}
use Rattle.text.specs.declared.Refusal.TheVariants.{Deep}
use Rattle.text.proofs.Promise.{Fits, whole_good, promised, count_root}
use Rattle.text.proofs.Answers.{keeps_read, only_deep}
use Rattle.text.proofs.Readback.Again.{reads_back, reads_loose}
use Rattle.text.proofs.Readback.Documents.{text_lexical, text_shorter}
use Rattle.contact.specs.Judge.{Breach, nothing, found, card_breach}
use Rattle.contact.specs.Verdict.{refused_fault, refused_card, Judged, passed, failed, fault_of, by_breach, judged_read, judged_of}
use Rattle.contact.specs.Patch.{entries_of}
use Rattle.contact.specs.Localize.{Outcome, refused_local, denied, start, localized_of, patched_doc}
use Rattle.contact.specs.Entries.{NoClash, ParentsThere}
use Rattle.contact.specs.Places.{key_place}
use Rattle.contact.specs.Conditions.{PatchOf, Applicable, BrokenPatch, Smallest}
use Rattle.contact.specs.Patching.{WrittenCard}
use Rattle.contact.specs.declared.CardFault.{CardFault}
use Rattle.contact.specs.declared.CardFault.TheVariants.{Kind, Missing, Value, Rule}
use Rattle.contact.specs.declared.CardRefusal.{CardRefusal}
use Rattle.contact.specs.declared.CardRefusal.TheVariants.{Text, Card}
use Rattle.contact.specs.declared.LocalRefusal.{LocalRefusal}
use Rattle.contact.specs.declared.LocalRefusal.TheVariants.{Given, Short, Inner}
use Rattle.contact.proofs.Judging.{judging}
use Rattle.contact.proofs.Patching.Entering.{late_applicable, short_of_lem, unfit_of}
use Rattle.contact.proofs.Patching.Refused.{refused_iff, patch_of, smallest_on}
use Rattle.contact.proofs.Patching.Public.{passed_so, failed_so}
use Rattle.contact.proofs.Patching.Every.{labels_long}
use Rattle.contact.proofs.Patching.Room.{room_enough, values_enough}
use Rattle.contact.proofs.Patching.Fine.{Fine, fine}
use Rattle.contact.proofs.Patching.Together.{patched, start_writable, patch_writable}

-- ---- a document that is read back is judged as it is

module _ (L : Limits) (words : ℕ) (x : Doc) (b : ReadsBack L x) where
  -- it is read as its tree
  abbrev Tree : Read
  Tree = good (root_of b.derives) (length (written x))

  judged_back : row_words * size (root_of b.derives) ≤ words → read_of L (written x) ≡ Tree → judged_of L words (written x) ≡ by_breach (root_of b.derives) (card_breach x)
  unfolding judged_of judged_read whole_of fit_of
  judged_back room e = rw (e, le-ltb words (row_words * size (root_of b.derives)) room, b.says)

  judged_deep : (p : ℕ) → read_of L (written x) ≡ bad (Deep p) → judged_of L words (written x) ≡ failed (Text (Deep p))
  unfolding judged_of judged_read whole_of fit_of
  judged_deep p e = rw e

pub judged_loose : (L : Limits) (words : ℕ) (x : Doc) → Writable x → judged_of (loose L) words (written x) ≡ judged_of L words (written x)
unfolding judged_of whole_of
judged_loose L words x w = rw (reads_loose L x w)

pub written_card : (L : Limits) (words : ℕ) (x : Doc) → Writable x → length (written x) ≤ L.bytes → count_of x ≤ L.values → row_words * count_of x ≤ words
    → WrittenCard L words x
written_card L words x w short few rows =
    let b : ReadsBack L x = reads_back L x w.labels in
    let read : depth_in x ≤ L.depth → read_of L (written x) ≡ Tree L words x b =
    λ l. keeps_read b.answer (record { short = short; shallow = l; few = few; distinct = λ u. w.distinct }) in
    record {
      back = b;
      read = read;
      judged = λ l. judged_back L words x b (rw b.count rows) (read l);
      deeper = λ l. let (p, e) = only_deep b.answer short few w.distinct l in (p, judged_deep L words x b p e);
    }

-- 5, or one of 11 to 14
data OnlyInner : CardRefusal → Type 0 where
  deep : {p : ℕ} → OnlyInner (Text (Deep p))
  fault : {f : CardFault} → OnlyInner (Card f)

-- what judging answers of a breach
breach_passed : (f g : Forest) (b : Breach) → by_breach f b ≡ passed g → f ≡ g
unfolding by_breach
breach_passed f g nothing e = cc
breach_passed f g (found row n) e = let z : ◌≡◌ {A = ℕ} 0 1 = cc in absurd (omega arith)

breach_failed : (f : Forest) (r : CardRefusal) (b : Breach) → by_breach f b ≡ failed r → OnlyInner r
unfolding by_breach
breach_failed f r nothing e = let z : ◌≡◌ {A = ℕ} 0 1 = cc in absurd (omega arith)
breach_failed f r (found row n) e =
    let c = fault_of n (get_or (starts_of f) row 0) in
    let z : Card c ≡ r = cc in
    subst OnlyInner z fault

module _ {L : Limits} {words : ℕ} {x : Doc} (w : WrittenCard L words x) where
  -- it passes with the tree that was derived, or fails by its depth or by a rule of cards
  passed_shallow : (g : Forest) → judged_of L words (written x) ≡ passed g → depth_in x ≤ L.depth
  passed_shallow g e = elim (dec_le (depth_in x) L.depth) [
    | yes l ↦ l
    | no l ↦ let (p, d) = w.deeper (omega arith) in let z : ◌≡◌ {A = ℕ} 0 1 = cc in absurd (omega arith)
  ]

  pub passed_tree : (g : Forest) → judged_of L words (written x) ≡ passed g → g ≡ root_of w.back.derives
  passed_tree g e = sym (breach_passed (root_of w.back.derives) g (card_breach x) (sym (w.judged (passed_shallow g e)) ∙ e))

  failed_inner : (r : CardRefusal) → judged_of L words (written x) ≡ failed r → OnlyInner r
  failed_inner r e = elim (dec_le (depth_in x) L.depth) [
    | yes l ↦ breach_failed (root_of w.back.derives) r (card_breach x) (sym (w.judged l) ∙ e)
    | no l ↦ let (p, d) = w.deeper (omega arith) in let z : Text (Deep p) ≡ r = cc in subst OnlyInner z deep
  ]

number_of : (r : CardRefusal) → OnlyInner r → ((refused_card r).number ≡ 5) ⊎ ((11 ≤ (refused_card r).number) × ((refused_card r).number ≤ 14))
unfolding refused_card refused refused_fault
number_of r deep = inl refl
number_of r (fault {f = Kind p}) = inr (omega arith, omega arith)
number_of r (fault {f = Missing p}) = inr (omega arith, omega arith)
number_of r (fault {f = Value p}) = inr (omega arith, omega arith)
number_of r (fault {f = Rule p}) = inr (omega arith, omega arith)

-- ---- the localized card of a text that passes

module _ (L : Limits) (unique : L.unique ≡ true) (words : ℕ) (t : List ℕ) (f : Forest) (pass : judged_of L words t ≡ passed f) where
  abbrev card : Doc
  card = doc_of t f

  -- it was read
  card_fits : (to : ℕ) × Fits L words t f to
  card_fits = let (to, w, keeps) = (judging.accepted L words t f).0 pass in (to, whole_good L words t f to w)

  card_promised : Promised L t f
  card_promised = let (to, r) = card_fits in promised L t f to r.read

  pub card_writable : Writable card
  card_writable = let (to, r) = card_fits in record { labels = text_lexical L t f to r.read; distinct = (promised L t f to r.read).distinct unique }

  module _ (lang : Name) (ms : Members) (patch : PatchOf card lang ms) where
    module _ (nc : NoClash (entries_of ms)) (pt : ParentsThere (entries_of ms) (start card)) where
      pub card_shorter : length (written (patched_doc card ms)) ≤ length t
      card_shorter =
          let (to, r) = card_fits in
          let long = labels_long Lexeme ms (patch_writable card lang ms patch card_writable).labels in
          omega (arith, room_enough card lang ms patch card_writable.distinct nc pt long, text_shorter L t f to r.read)

      pub card_fewer : count_of (patched_doc card ms) ≤ size f
      card_fewer =
          let p = card_promised in
          omega (arith, values_enough card lang ms patch card_writable.distinct nc pt, count_root t f p.some p.alone)

    pub card_written : Applicable (start card) ms → WrittenCard L words (patched_doc card ms)
    card_written u =
        let h : Fine (start card) ms = fine (start card) ms u in
        let (to, r) = card_fits in
        let p = card_promised in
        let fewer = card_fewer h.no_clash h.parents in
        written_card L words (patched_doc card ms)
        (patched (start card) ms (start_writable card card_writable) (patch_writable card lang ms patch card_writable) u).writable
        (omega (arith, card_shorter h.no_clash h.parents, p.short))
        (omega (arith, fewer, p.few))
        (omega (arith, mul-le-mul_left row_words fewer, r.room))

-- ---- 27 and 28

module _ (L : Limits) (words room : ℕ) (unique : L.unique ≡ true) where
  -- a text that is not refused for its own sake passes
  pub passed_text : (t : List ℕ) (lang : Name) (o : Outcome) → localized_of L words room t lang ≡ o → ((r : CardRefusal) → o ≡ denied (Given r) → ⊥)
      → (f : Forest) × (judged_of L words t ≡ passed f)
  passed_text t lang o e not = go (judged_of L words t) refl
    where
      go : (j : Judged) → judged_of L words t ≡ j → (f : Forest) × (judged_of L words t ≡ passed f)
      go (passed f) k = (f, k)
      go (failed r) k = absurd (not r (sym e ∙ failed_so L words room t lang r k))

  module _ (t : List ℕ) (lang : Name) (f : Forest) (pass : judged_of L words t ≡ passed f) where
    abbrev place : Name → ℕ
    place = key_place t f lang

    -- its document has the outcome, by the PatchObject that it has
    of_card : (r : LocalRefusal) → localized_of L words room t lang ≡ denied r → 21 < (refused_local r).number
        → (ms : Members) × PatchOf (doc_of t f) lang ms × Smallest (BrokenPatch L words room place (start (doc_of t f)) ms) (refused_local r).number r
    of_card r e l =
        let s = (refused_iff L words room place (doc_of t f) lang r).0 (sym (passed_so L words room t lang f pass) ∙ e) in
        let (ms, patch) = patch_of L words room place (doc_of t f) lang s.broken l in
        (ms, patch, smallest_on L words room place (doc_of t f) lang ms patch s)

    card_longest : (n : ℕ) (ms : Members) → PatchOf (doc_of t f) lang ms → Smallest (BrokenPatch L words room place (start (doc_of t f)) ms) 27 (Short n)
        → (room < n) × (n ≤ length t)
    card_longest n ms patch s =
        let (short, q) = short_of_lem L words room place (start (doc_of t f)) ms s.broken in
        let h = fine (start (doc_of t f)) ms (late_applicable L words room place (start (doc_of t f)) ms (λ m q b. omega (arith, s.least m q b))) in
        let same : n ≡ length (written (patched_doc (doc_of t f) ms)) = cc in
        (omega arith, omega (arith, card_shorter L unique words t f pass lang ms patch h.no_clash h.parents))

    card_inner : (r : CardRefusal) (ms : Members) → PatchOf (doc_of t f) lang ms → Smallest (BrokenPatch L words room place (start (doc_of t f)) ms) 28 (Inner r)
        → OnlyInner r
    card_inner r ms patch s =
        let (x, judged, q) = unfit_of L words room place (start (doc_of t f)) ms s.broken in
        let u = late_applicable L words room place (start (doc_of t f)) ms (λ m q b. omega (arith, s.least m q b)) in
        let same : x ≡ r = cc in
        failed_inner {x = patched_doc (doc_of t f) ms} (card_written L unique words t f pass lang ms patch u) r (rw same at judged)

  pub never_longer : (t : List ℕ) (lang : Name) (n : ℕ) → localized_of L words room t lang ≡ denied (Short n) → (room < n) × (n ≤ length t)
  unfolding refused_local
  never_longer t lang n e =
      let (f, pass) = passed_text t lang (denied (Short n)) e (λ r z. let k : ◌≡◌ {A = ℕ} 0 1 = cc in omega arith) in
      let (ms, patch, s) = of_card t lang f pass (Short n) e (omega arith) in
      card_longest t lang f pass n ms patch s

  only_inner : (t : List ℕ) (lang : Name) (r : CardRefusal) → localized_of L words room t lang ≡ denied (Inner r) → OnlyInner r
  unfolding refused_local
  only_inner t lang r e =
      let (f, pass) = passed_text t lang (denied (Inner r)) e (λ q z. let n : ◌≡◌ {A = ℕ} 0 1 = cc in omega arith) in
      let (ms, patch, s) = of_card t lang f pass (Inner r) e (omega arith) in
      card_inner t lang f pass r ms patch s

  pub inner_number : (t : List ℕ) (lang : Name) (r : CardRefusal) → localized_of L words room t lang ≡ denied (Inner r)
      → ((refused_card r).number ≡ 5) ⊎ ((11 ≤ (refused_card r).number) × ((refused_card r).number ≤ 14))
  inner_number t lang r e = number_of r (only_inner t lang r e)
