-- `Judging` (specs/Judging.antt) holds: the theorems of judging put together.
--     SimpleValues, Times      the tests of single values
--     Signatures               the table of types is what the signatures say
--     Table, BetweenMembers    kinds and types by the table; the rules between members
--     Rows, Breaches    the number of one row; the first breach of a card
--     Shown             the rows of a document and of its text
-- Assumes nothing.
pub mod SimpleValues
pub mod Times
pub mod Table
pub mod Signatures
pub mod BetweenMembers
pub mod Rows
pub mod Breaches
pub mod Shown
use Rattle.std.specs.Prelude.{Result, Ok, Err}
use Prim.Native.Nat.{ℕ, ◌≤◌, ◌<◌}
use mathlib.Core.Path.{◌≡◌, refl, sym, ap, ap₂, subst, subst₂, ◌∙◌}
use mathlib.Core.Bool.{cond}
use mathlib.Core.List.{List}
use mathlib.Core.Logic.{◌↔◌}
use native.Mathlib.Omega.{arith}
use lib.ListN.{length, get_or}
use lib.Dec.{eqb}
use Rattle.laws.proofs.Decides.{iff}
use Rattle.text.proofs.Promise.{promised, whole_good, count_root}
use Rattle.text.proofs.Grammar.Accepted.{accepts}
use Rattle.text.proofs.Readable.{readable_good, unreadable_bad, read_so, unread_so}
use Rattle.text.proofs.Rows.{value_start}
use Rattle.text.proofs.Telling.{tells_iff}
use Rattle.text.specs.Limits.{Limits}
use Rattle.text.specs.Tree.{Forest, size, starts_of}
use Rattle.text.specs.Meaning.{Readable}
use Rattle.text.specs.Telling.{Tells}
use Rattle.text.specs.Reader.{Read, good, bad}
use Rattle.text.specs.declared.Paper.{Paper}
use Rattle.text.specs.Sheet.{numbers, refused}
use Rattle.text.specs.Whole.{whole_of}
use Rattle.text.specs.Doc.{Doc, doc_of}
use Rattle.text.specs.declared.Refusal.{Refusal}
use Rattle.text.specs.declared.Refusal.TheVariants.{TooLong, Grammar, Character, Repeated, Deep, Many, Small}
use Rattle.contact.specs.Judge.{Breach, nothing, found, card_breach}
use Rattle.contact.specs.Verdict.{refused_fault, refused_card, paper_of_verdict, Judged, passed, failed, fault_of, by_breach, judged_read, judged_of, sheet_of_judged, table_of_judged}
use Rattle.contact.specs.Breaches.{BreaksLine, RowBreaks, Keeps, FirstBreach}
use Rattle.contact.specs.Breaches as B
use Rattle.contact.specs.Judging.{CardText, Offends, CardAnswer, unread, passes, offends, Judging}
use Rattle.contact.specs.declared.CardFault.TheVariants.{Kind, Missing, Value, Rule}
use Rattle.contact.specs.declared.CardRefusal.{CardRefusal}
use Rattle.contact.specs.declared.CardRefusal.TheVariants.{Text, Card}
use Rattle.contact.proofs.Judging.SimpleValues.{id_test, count_test}
use Rattle.contact.proofs.Judging.Times.{leap_test, day_test, time_test}
use Rattle.contact.proofs.Judging.BetweenMembers.{between_test}
use Rattle.contact.proofs.Judging.Breaches.{broken_row, Least, unbroken, at_first, first_breach}
use Rattle.contact.proofs.Judging.Shown.{value_shown}

-- ---- what the search of a card finds

-- what a breach says of a card
module _ {whole : Doc} where
  none_kept : {b : Breach} → Least (RowBreaks whole) b → b ≡ nothing → Keeps whole
  none_kept (unbroken f) e = f
  none_kept (at_first x h) e = let z : ◌≡◌ {A = ℕ} 0 1 = cc in absurd (omega arith)

  kept_none : {b : Breach} → Least (RowBreaks whole) b → Keeps whole → b ≡ nothing
  kept_none (unbroken f) k = refl
  kept_none (at_first x h) k = absurd (k _ _ x)

  found_first : {b : Breach} {row n : ℕ} → Least (RowBreaks whole) b → b ≡ found row n → FirstBreach whole row n
  found_first (unbroken f) e = let z : ◌≡◌ {A = ℕ} 0 1 = cc in absurd (omega arith)
  found_first {row = row} {n = n} (at_first {r = r} {n = m} x h) e =
      let same_row : r ≡ row = cc in
      let same_number : m ≡ n = cc in
      subst₂ (FirstBreach whole) same_row same_number
      (record { broken = x; earliest = λ q l y. (h q l y).0; smallest = λ l y. (h r l y).1 refl })

  first_found : {b : Breach} {row n : ℕ} → Least (RowBreaks whole) b → FirstBreach whole row n → b ≡ found row n
  first_found (unbroken f) k = absurd (f _ _ k.broken)
  first_found {row = row} {n = n} (at_first {r = r} {n = m} x h) k =
      let up = h row n k.broken in
      let down = k.earliest r m x in
      let same_row : r ≡ row = omega arith in
      let most : m ≤ n = up.1 (sym same_row) in
      let least : n ≤ m = k.smallest m (subst (λ (q : ℕ). RowBreaks whole q m) same_row x) in
      let same_number : m ≡ n = omega arith in
      ap₂ found same_row same_number

-- ---- what judging a text answers

-- the sheet's number of a line that is broken is its own
fault_number : {n : ℕ} {ty : _} {u : _} {v : Doc} (p : ℕ) → BreaksLine n ty u v → refused_fault (fault_of n p) ≡ numbers n p 0
unfolding refused_fault fault_of
fault_number p (B.kind _) = refl
fault_number p (B.missing _ _) = refl
fault_number p (B.value _ _) = refl
fault_number p (B.badly_keyed _ _) = refl
fault_number p (B.rule _ _) = refl

-- what is made of a reading
data Judgement (t : List ℕ) : Read → Judged → Type 0 where
  not_read : {r : Refusal} → Judgement t (bad r) (failed (Text r))
  kept : {f : Forest} {to : ℕ} → Keeps (doc_of t f) → Judgement t (good f to) (passed f)
  broken : {f : Forest} {to row n : ℕ} → FirstBreach (doc_of t f) row n → Judgement t (good f to) (failed (Card (fault_of n (get_or (starts_of f) row 0))))

judgement : (t : List ℕ) (r : Read) → Judgement t r (judged_read t r)
unfolding judged_read by_breach
judgement t (bad r) = not_read
judgement t (good f to) = go (card_breach (doc_of t f)) refl (first_breach (doc_of t f))
  where
    go : (b : Breach) → card_breach (doc_of t f) ≡ b → Least (RowBreaks (doc_of t f)) (card_breach (doc_of t f)) → Judgement t (good f to) (by_breach f b)
    go nothing e l = kept (none_kept l e)
    go (found row n) e l = broken (found_first l e)

module _ (L : Limits) (words : ℕ) (t : List ℕ) where
  judged : Judgement t (whole_of L words t) (judged_of L words t)
  unfolding judged_of
  judged = judgement t (whole_of L words t)

  -- ---- acceptance

  passed_kept : {r : Read} {j : Judged} {f : Forest} → Judgement t r j → whole_of L words t ≡ r → j ≡ passed f
      → (to : ℕ) × (whole_of L words t ≡ good f to) × Keeps (doc_of t f)
  passed_kept not_read e q = let z : ◌≡◌ {A = ℕ} 0 1 = cc in absurd (omega arith)
  passed_kept {f = f} (kept {f = g} {to = to} k) e q =
      let same_tree : g ≡ f = cc in
      (to, e ∙ ap (λ (x : Forest). good x to) same_tree, subst (λ (x : Forest). Keeps (doc_of t x)) same_tree k)
  passed_kept (broken h) e q = let z : ◌≡◌ {A = ℕ} 0 1 = cc in absurd (omega arith)

  kept_passed : {f : Forest} {to : ℕ} → whole_of L words t ≡ good f to → Keeps (doc_of t f) → judged_of L words t ≡ passed f
  unfolding judged_of judged_read by_breach
  kept_passed {f} e k = rw (e, kept_none (first_breach (doc_of t f)) k)

  -- ---- what a text that is read says

  pub read_documents : (f : Forest) → Readable L words t f → (d : Doc) → Tells t f d ↔ (d ≡ doc_of t f)
  read_documents f r = tells_iff L t f (length t) ((accepts L t f).1 r.accepts)

  pub document_told : (f : Forest) → Readable L words t f → Tells t f (doc_of t f)
  document_told f r = (read_documents f r (doc_of t f)).1 refl

  pub card_text : (f : Forest) → Readable L words t f → Keeps (doc_of t f) → CardText L words t f
  card_text f r k = record { readable = r; document = doc_of t f; says = document_told f r; keeps = k }

  pub card_keeps : (f : Forest) → CardText L words t f → Keeps (doc_of t f)
  card_keeps f c = subst Keeps ((read_documents f c.readable c.document).0 c.says) c.keeps

  -- the value on the row of the first breach, and where it starts
  offending : (f : Forest) → Readable L words t f → {row n : ℕ} → FirstBreach (doc_of t f) row n → Offends L words t n (get_or (starts_of f) row 0)
  offending f r {row} h =
      let v = value_shown t f (document_told f r) h.broken.stands in
      record {
        tree = f;
        readable = r;
        document = doc_of t f;
        says = document_told f r;
        row = row;
        first = h;
        seat = v.seat;
        offender = v.head;
        stands = v.there;
        on_row = v.on_row;
        shows = v.shows;
        place = ap (λ (i : ℕ). get_or (starts_of f) i 0) (sym v.on_row) ∙ value_start f v.there;
      }

  -- ---- the answer and the table

  sayings : {r : Read} {j : Judged} → Judgement t r j → whole_of L words t ≡ r → CardAnswer L words t (sheet_of_judged j) (table_of_judged words j)
  unfolding sheet_of_judged paper_of_verdict table_of_judged refused_card
  sayings not_read e = unread (unread_so L words t e)
  sayings (kept {f = f} k) e = passes (card_text f (read_so L words t e) k)
  sayings (broken {f = f} {row = row} h) e =
      rw (fault_number (get_or (starts_of f) row 0) h.broken.broken) (offends (offending f (read_so L words t e) h))

  said : {p : Paper} {table : List ℕ} → CardAnswer L words t p table
      → (p ≡ sheet_of_judged (judged_of L words t)) × (table ≡ table_of_judged words (judged_of L words t))
  unfolding judged_of judged_read by_breach sheet_of_judged paper_of_verdict table_of_judged refused_card
  said (unread u) = let e = unreadable_bad L words t u in (rw e, rw e)
  said (passes {f = f} c) = let e = kept_passed (readable_good L words t f c.readable) (card_keeps f c) in (rw e, rw e)
  said (offends {number = n} o) =
      let f = o.tree in
      let e = readable_good L words t f o.readable in
      let h = subst (λ (d : Doc). FirstBreach d o.row n) ((read_documents f o.readable o.document).0 o.says) o.first in
      let b = first_found (first_breach (doc_of t f)) h in
      let at_place : get_or (starts_of f) o.row 0 ≡ o.offender.from =
      ap (λ (i : ℕ). get_or (starts_of f) i 0) (sym o.on_row) ∙ value_start f o.stands in
      let p = fault_number (get_or (starts_of f) o.row 0) h.broken.broken in
      (rw (e, b, p) (ap (λ (k : ℕ). numbers n k 0) (o.place ∙ sym at_place)), rw (e, b))

  -- ---- the row of a refusal

  its_row : {f : Forest} {to row n : ℕ} → whole_of L words t ≡ good f to → FirstBreach (doc_of t f) row n → row < size f
  its_row {f} {to} e h =
      let p = promised L t f to (whole_good L words t f to e).read in omega (arith, count_root t f p.some p.alone, broken_row h.broken)

-- ---- an answer's numbers tell the answer

-- the answer of a number and a second number
abbrev refusal_of : (number second : ℕ) → CardRefusal
refusal_of n s =
    cond (eqb n 1) (Text TooLong)
    (cond (eqb n 2) (Text (Grammar s))
    (cond (eqb n 3) (Text (Character s))
    (cond (eqb n 4) (Text (Repeated s))
    (cond (eqb n 5) (Text (Deep s))
    (cond (eqb n 6) (Text (Many s))
    (cond (eqb n 7) (Text (Small s))
    (cond (eqb n 11) (Card (Kind s)) (cond (eqb n 12) (Card (Missing s)) (cond (eqb n 13) (Card (Value s)) (Card (Rule s)))))))))))

abbrev verdict_on : Paper → Result ℕ CardRefusal
verdict_on p = cond (eqb p.number 0) (Ok p.second) (Err (refusal_of p.number p.second))

answer_back : (a : Result ℕ CardRefusal) → verdict_on (paper_of_verdict a) ≡ a
unfolding paper_of_verdict refused_card refused_fault refused
answer_back (Ok n) = refl
answer_back (Err (Text TooLong)) = refl
answer_back (Err (Text (Grammar p))) = refl
answer_back (Err (Text (Character p))) = refl
answer_back (Err (Text (Repeated p))) = refl
answer_back (Err (Text (Deep p))) = refl
answer_back (Err (Text (Many p))) = refl
answer_back (Err (Text (Small n))) = refl
answer_back (Err (Card (Kind p))) = refl
answer_back (Err (Card (Missing p))) = refl
answer_back (Err (Card (Value p))) = refl
answer_back (Err (Card (Rule p))) = refl

pub one_answer : (a b : Result ℕ CardRefusal) → paper_of_verdict a ≡ paper_of_verdict b → a ≡ b
one_answer a b e = sym (answer_back a) ∙ ap verdict_on e ∙ answer_back b

-- ---- all of it

pub judging : Judging
judging = record {
  ids = λ n. iff (id_test n);
  counts = λ low high token. iff (count_test low high token);
  leap_years = λ y. iff (leap_test y);
  days = λ y m d. iff (day_test y m d);
  times = λ t. iff (time_test t);
  rules = λ o ms. iff (between_test o ms);
  keeps = λ d. (none_kept (first_breach d), kept_none (first_breach d));
  first = λ d row n. (found_first (first_breach d), first_found (first_breach d));
  accepted = λ L words t f. (passed_kept L words t (judged L words t) refl, λ h. kept_passed L words t h.1 h.2);
  answer = λ L words t p table. (
    λ h. subst₂ (CardAnswer L words t) (sym h.0) (sym h.1) (sayings L words t (judged L words t) refl),
    said L words t,
  );
  place = λ L words t f to row number e h. its_row L words t e h;
  one_answer = one_answer;
  one_outcome = λ L t lent a b x y h k. (one_answer a b (h.answered ∙ sym k.answered), h.table ∙ sym k.table);
}
