-- What the program does (specs/Program.antt):
--     desk         `Desk` holds of the line of an input, with the rows that the program lends
--     by-contract  so it holds of any function that keeps the contract of `program_line`
--     read-enough  what is said hangs on no more than a byte over the buffer
--     one_line     two functions of which it holds say the same
-- What judging answers is taken from the demands (crate contact), and how many values so many bytes can be from crate text. Assumes nothing.
use Prim.Native.Nat.{ℕ, ◌+◌, ◌≤◌, ◌<◌}
use native.Mathlib.Omega.{arith}
use mathlib.Core.Path.{◌≡◌, refl, sym, ap, ◌∙◌, subst, fun_ext}
use mathlib.Core.Logic.{inl, inr, ◌↔◌}
use mathlib.Core.List.{List, ◌++◌}
use lib.ListN.{length, take, drop, take-append-drop, length-take}
use lib.Seq.{take_all}
use borrow.Author.Tests.{lt-ltb, le-ltb}
use Rattle.text.specs.Limits.{base}
use Rattle.text.specs.declared.Paper.{Paper}
use Rattle.text.specs.Sheet.{numbers, acceptance, refusal}
use Rattle.text.specs.Tree.{Forest}
use Rattle.text.specs.Doc.{Doc}
use Rattle.text.specs.Grammar.{JsonText}
use Rattle.text.specs.Fault.{RowsShort}
use Rattle.text.proofs.Grammar.Stands.{by_order}
use Rattle.text.proofs.Grammar.Refused.{refuses}
use Rattle.text.proofs.Grammar.Bytes.{many_longer}
use Rattle.contact.specs.Schema.{Ty}
use Rattle.contact.specs.Breaches.{Under, BreaksLine}
use Rattle.contact.specs.Judging.{CardText}
use Rattle.contact.specs.Services.{Left, read, judge, served}
use Rattle.contact.specs.Demands.{Lines, Ends, ReadingAndJudging}
use Rattle.contact.proofs.Demands.{base_demands}
use Rattle.contact.proofs.Demands.Sheet.{same_number, same_second}
use Rattle.desk.specs.Line.{buffer, words_lent, line_of, of_input}
use Rattle.desk.specs.Program.{Desk, ByContract, ReadEnough, OneLine}

-- ---- what judging answers

-- the card rules have numbers from 11 on
card_number : {n : ℕ} {ty : Ty} {u : Under} {v : Doc} → BreaksLine n ty u v → 11 ≤ n
card_number (BreaksLine.kind a) = omega arith
card_number (BreaksLine.missing a b) = omega arith
card_number (BreaksLine.value a b) = omega arith
card_number (BreaksLine.badly_keyed a b) = omega arith
card_number (BreaksLine.rule a b) = omega arith

of_demands : ReadingAndJudging base (served base)
of_demands = base_demands.reading_and_judging

abbrev said : List ℕ → Paper
said input = of_input input words_lent

module _ (t : List ℕ) where
  -- what reading and judging answer of a text, with the rows that are lent
  abbrev reading : Paper
  reading = (served base (read t words_lent)).answer

  abbrev verdict : Paper
  verdict = (served base (judge t words_lent)).answer

  -- a refusal: its number stands on the sheet, and nothing is written
  refusal_on : (n : ℕ) → 0 < n → verdict.number ≡ n → (p : ℕ) × (verdict ≡ numbers n p 0) × Lines (judge t words_lent) n
  refusal_on n some = go (base_demands.every_call.ends (judge t words_lent))
    where
      go : {l : Left} → Ends (judge t words_lent) l → l.answer.number ≡ n → (p : ℕ) × (l.answer ≡ numbers n p 0) × Lines (judge t words_lent) n
      go (acceptance rows bytes count spare rest a b c) e = absurd (omega arith)
      go (refusal {number} {second} l) e = (second, ap (λ (k : ℕ). numbers k second 0) e, rw e at l)

  never_34 : verdict.number ≡ 34 → ⊥
  never_34 e = go (refusal_on 34 (omega arith) e).2
    where
      go : Lines (judge t words_lent) 34 → ⊥
      go (inl w) = omega arith
      go (inr w) = omega arith

  -- what is below 11 reading says
  by_reading : (n p : ℕ) → 0 < n → n < 11 → verdict ≡ numbers n p 0 → reading ≡ numbers n p 0
  by_reading n p some few e =
      by_order 0 reading.number
      (λ l. ap (λ (k : Left). k.answer) (sym (of_demands.unread t words_lent (λ z. omega arith))) ∙ e)
      (λ l. absurd (omega (arith, card_number ((of_demands.offends t words_lent n p (omega arith) some).0 e).first.broken.broken)))

  from_reading : (n p : ℕ) → 0 < n → reading ≡ numbers n p 0 → verdict ≡ numbers n p 0
  from_reading n p some e = ap (λ (k : Left). k.answer) (of_demands.unread t words_lent (λ z. omega (arith, same_number e))) ∙ e

  -- ---- the line of an input

  over_line : buffer < length t → said t ≡ numbers 34 0 0
  unfolding of_input line_of
  over_line l = rw (lt-ltb buffer (length t) l)

  within_line : length t ≤ buffer → said t ≡ verdict
  unfolding of_input line_of
  within_line l = rw (le-ltb buffer (length t) l, take_all buffer t l)

  -- another number than 34: the whole input was judged
  other_line : (n : ℕ) → (n ≡ 34 → ⊥) → (said t).number ≡ n → (length t ≤ buffer) × (verdict.number ≡ n)
  other_line n not e =
      by_order buffer (length t) (λ l. absurd (not (sym e ∙ same_number (over_line l)))) (λ l. (l, sym (same_number (within_line l)) ∙ e))

  -- and one from 1 to 10 is reading's
  low_line : (n p : ℕ) → 0 < n → n < 11 → said t ≡ numbers n p 0 → (length t ≤ buffer) × (reading ≡ numbers n p 0)
  low_line n p some few e =
      let (within, k) = other_line n (λ z. omega arith) (same_number e) in (within, by_reading n p some few (sym (within_line within) ∙ e))

  -- its second number, where the first is known
  some_line : (n : ℕ) → 0 < n → n < 11 → (said t).number ≡ n → (p : ℕ) × (said t ≡ numbers n p 0)
  some_line n some few e =
      let (within, k) = other_line n (λ z. omega arith) e in
      let (p, is, on) = refusal_on n some k in (p, within_line within ∙ is)

  -- ---- sentence by sentence

  over_iff : (second : ℕ) → (said t ≡ numbers 34 second 0) ↔ ((buffer < length t) × (second ≡ 0))
  over_iff second = (there, λ (l, e). rw e (over_line l))
    where
      there : said t ≡ numbers 34 second 0 → (buffer < length t) × (second ≡ 0)
      there e =
          by_order buffer (length t) (λ l. (l, same_second (sym e ∙ over_line l))) (λ l. absurd (never_34 (same_number (sym (within_line l) ∙ e))))

  passes_iff : ((said t).number ≡ 0) ↔ ((length t ≤ buffer) × ((f : Forest) × CardText base words_lent t f))
  passes_iff = (there, λ (within, c). same_number (within_line within) ∙ (of_demands.passes t words_lent).1 c)
    where
      there : (said t).number ≡ 0 → (length t ≤ buffer) × ((f : Forest) × CardText base words_lent t f)
      there e = let (within, k) = other_line 0 (λ z. omega arith) e in (within, (of_demands.passes t words_lent).0 k)

  not_long : ¬ ((said t).number ≡ 1)
  not_long e =
      let (p, is) = some_line 1 (omega arith) (omega arith) e in
      let (within, k) = low_line 1 p (omega arith) (omega arith) is in omega (arith, (of_demands.too_long t words_lent p).0 k)

  ends_early : (p : ℕ) → said t ≡ numbers 6 p 0 → (rest : List ℕ) → JsonText (take (p + 1) t ++ rest) → buffer < length (take (p + 1) t ++ rest)
  ends_early p e =
      let (within, k) = low_line 6 p (omega arith) (omega arith) e in
      let fault = (of_demands.first_fault t (omega arith) words_lent 6 p (omega arith)).0 k in
      many_longer base t (omega arith) p ((refuses base t (omega arith) 6 p).1 fault)

  not_many : JsonText t → ¬ ((said t).number ≡ 6)
  not_many j e =
      let (p, is) = some_line 6 (omega arith) (omega arith) e in
      let (within, k) = low_line 6 p (omega arith) (omega arith) is in
      let same = take-append-drop (p + 1) t in omega (arith, ap length same, ends_early p is (drop (p + 1) t) (rw same j))

  short_iff : (n : ℕ) → (said t ≡ numbers 7 n 0) ↔ ((length t ≤ buffer) × RowsShort base words_lent t n)
  short_iff n = (there, λ (within, r). within_line within ∙ from_reading 7 n (omega arith) ((of_demands.rows_short t words_lent n).1 r))
    where
      there : said t ≡ numbers 7 n 0 → (length t ≤ buffer) × RowsShort base words_lent t n
      there e = let (within, k) = low_line 7 n (omega arith) (omega arith) e in (within, (of_demands.rows_short t words_lent n).0 k)

-- ---- what the program does

pub desk : Desk said
desk = record {
  over = over_iff;
  judged = within_line;
  passes = passes_iff;
  never_long = not_long;
  unfinished = ends_early;
  never_many = not_many;
  rows_short = short_iff;
}

pub by_contract : ByContract
by_contract says keeps = subst Desk (sym (fun_ext keeps)) desk

pub read_enough : ReadEnough
read_enough says d input n h =
    by_order buffer (length input)
    (λ l.
    let k : buffer < length (take n input) = omega (arith, length-take n input) in
    (d.over (take n input) 0).1 (k, refl) ∙ sym ((d.over input 0).1 (l, refl)))
    (λ l. ap says (take_all n input (omega arith)))

pub one_line : OneLine
one_line says tells d e input =
    by_order buffer (length input) (λ l. (d.over input 0).1 (l, refl) ∙ sym ((e.over input 0).1 (l, refl))) (λ l. d.judged input l ∙ sym (e.judged input l))
