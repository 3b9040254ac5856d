-- Demand 2, of what reading and judging leave: what an answer means is told by the theorems `accepts`, `refuses` and `too_long` of the grammar, and
-- `judging`. Assumes nothing.
use Prim.Native.Nat.{ℕ, ◌*◌, ◌≤◌, ◌<◌}
use native.Mathlib.Omega.{arith}
use mathlib.Core.Path.{◌≡◌, refl, sym, ◌∙◌}
use mathlib.Core.Logic.{◌↔◌}
use mathlib.Core.List.{List, []}
use lib.ListN.{length}
use Rattle.laws.specs.Lists.{filled}
use Rattle.laws.proofs.Branches.{if_less}
use Rattle.text.specs.Limits.{Limits, row_words}
use Rattle.text.specs.Tree.{Forest, size, tree_rows}
use Rattle.text.specs.Reader.{Read, good, bad}
use Rattle.text.specs.Seats.{Head, Seat, top, Sits}
use Rattle.text.specs.Standing.{RowAt}
use Rattle.text.specs.declared.Paper.{Paper}
use Rattle.text.specs.Sheet.{numbers, refused, Within}
use Rattle.text.specs.Whole.{read_of, fit_of, whole_of, sheet_of, table_of}
use Rattle.text.specs.Meaning.{Readable}
use Rattle.text.specs.Promised.{Filled}
use Rattle.text.specs.Fault.{FaultAt, grammar, violated, FirstFault, RowsShort, long, faulty, short}
use Rattle.text.specs.declared.Refusal.{Refusal}
use Rattle.text.specs.declared.Refusal.TheVariants.{TooLong, Grammar, Character, Repeated, Deep, Many, Small}
use Rattle.text.proofs.Promise.{filled_stands, filled_linked, promised, fills, whole_bad}
use Rattle.text.proofs.Grammar.Rules.{wrong_number, breaks_wrong}
use Rattle.text.proofs.Grammar.Accepted.{accepts}
use Rattle.text.proofs.Grammar.Refused.{refuses, too_long}
use Rattle.text.proofs.Readable.{readable_good, unreadable_bad, Means, reads, denies, means, read_so}
use Rattle.text.proofs.Rows.{row_at}
use Rattle.contact.specs.Verdict.{refused_card, Judged, passed, failed, judged_read, judged_of, sheet_of_judged, table_of_judged, paper_of_verdict}
use Rattle.contact.specs.Judging.{CardText, Offends, CardAnswer, unread, passes, offends}
use Rattle.contact.specs.Services.{read, judge, leaves, served}
use Rattle.contact.specs.Demands.{Passes}
use Rattle.contact.proofs.Judging.{judging, card_text, card_keeps}
use Rattle.contact.proofs.Demands.Sheet.{line_of, text_line, card_line, card_some, same_number, same_second}

module _ (L : Limits) (words : ℕ) (t : List ℕ) where
  fault_number : {n p : ℕ} → FaultAt L t n p → Within 2 6 n
  fault_number (grammar g) = omega arith
  fault_number (violated v) = let w = wrong_number L t (breaks_wrong L t v.broken.breaks) in omega arith

  -- ---- reading, of what it leaves

  pub read_passes : Passes (served L) (read t words) ↔ ((f : Forest) × Readable L words t f)
  unfolding served sheet_of refused
  read_passes = (λ e. go (whole_of L words t) (means L words t) e, λ (f, r). rw (readable_good L words t f r))
    where
      go : (R : Read) → Means L words t R → (sheet_of R).number ≡ 0 → (f : Forest) × Readable L words t f
      go R (denies {r = r} u) e = absurd (omega (arith, line_of (text_line r)))
      go R (reads {f = f} r) e = (f, r)

  pub read_rows : (f : Forest) → Readable L words t f → served L (read t words) ≡ leaves (numbers 0 (size f) 0) (filled words (tree_rows f)) []
  unfolding served sheet_of table_of
  read_rows f r = rw (readable_good L words t f r)

  pub read_describes : (f : Forest) → Readable L words t f → Filled L t (served L (read t words)).table (size f) f
  read_describes f r =
      rw (read_rows f r) (fills (promised L t f (length t) ((accepts L t f).1 r.accepts)) (filled_stands words f) (filled_linked words f))

  pub read_words : (f : Forest) → Readable L words t f → (d : Seat) (h : Head) → Sits top f d h → RowAt (served L (read t words)).table d.after h
  read_words f r d h i = row_at (served L (read t words)).table f (read_describes f r).stands.stands d h i

  pub read_long : (second : ℕ) → ((served L (read t words)).answer ≡ numbers 1 second 0) ↔ ((L.bytes < length t) × (second ≡ 0))
  unfolding served whole_of fit_of sheet_of refused
  read_long second = (λ e. let k = go (read_of L t) e in ((too_long L t).0 k.0, k.1), λ (l, e). rw ((too_long L t).1 l, e))
    where
      one : (r : Refusal) → refused r ≡ numbers 1 second 0 → (bad r ≡ bad TooLong) × (second ≡ 0)
      one TooLong e = (refl, sym (same_second e))
      one (Grammar p) e = absurd (omega (arith, same_number e))
      one (Character p) e = absurd (omega (arith, same_number e))
      one (Repeated p) e = absurd (omega (arith, same_number e))
      one (Deep p) e = absurd (omega (arith, same_number e))
      one (Many p) e = absurd (omega (arith, same_number e))
      one (Small n) e = absurd (omega (arith, same_number e))

      go : (R : Read) → sheet_of (fit_of words R) ≡ numbers 1 second 0 → (R ≡ bad TooLong) × (second ≡ 0)
      go (bad r) e = one r e
      go (good f to) e =
          absurd (if_less (λ (R : Read). sheet_of R ≡ numbers 1 second 0 → ⊥) words (row_words * size f)
          (λ l k. omega (arith, same_number k)) (λ l k. omega (arith, same_number k)) e)

  pub read_fault : length t ≤ L.bytes → (n p : ℕ) → Within 2 6 n → ((served L (read t words)).answer ≡ numbers n p 0) ↔ FirstFault L t n p
  unfolding served sheet_of refused
  read_fault within n p w = (λ e. go (whole_of L words t) (means L words t) e, back)
    where
      go : (R : Read) → Means L words t R → sheet_of R ≡ numbers n p 0 → FirstFault L t n p
      go R (denies (long l)) e = absurd (omega arith)
      go R (denies (faulty l h k)) e = let z = sym k ∙ e in rw (same_number z, same_second z) at h
      go R (denies (short s)) e = absurd (omega (arith, same_number e))
      go R (reads r) e = absurd (omega (arith, same_number e))

      back : FirstFault L t n p → sheet_of (whole_of L words t) ≡ numbers n p 0
      back h = let r = (refuses L t within n p).1 h in rw (whole_bad L words t r.refusal r.answer) r.sheet

  pub read_short : (n : ℕ) → ((served L (read t words)).answer ≡ numbers 7 n 0) ↔ RowsShort L words t n
  unfolding served sheet_of refused whole_of fit_of
  read_short n = (λ e. go (whole_of L words t) (means L words t) e, back)
    where
      go : (R : Read) → Means L words t R → sheet_of R ≡ numbers 7 n 0 → RowsShort L words t n
      go R (denies (long l)) e = absurd (omega (arith, same_number e))
      go R (denies (faulty l h k)) e = absurd (omega (arith, fault_number h.fault, same_number (sym k ∙ e)))
      go R (denies (short s)) e = rw (same_second e) at s
      go R (reads r) e = absurd (omega (arith, same_number e))

      back : RowsShort L words t n → sheet_of (whole_of L words t) ≡ numbers 7 n 0
      back s = rw (unreadable_bad L words t (short s))

  -- ---- judging

  pub judge_unread : ¬ Passes (served L) (read t words) → served L (judge t words) ≡ served L (read t words)
  unfolding served judged_of judged_read sheet_of table_of sheet_of_judged paper_of_verdict table_of_judged refused_card
  judge_unread not = go (whole_of L words t) refl
    where
      go : (R : Read) → whole_of L words t ≡ R → served L (judge t words) ≡ served L (read t words)
      go (bad r) e = rw e
      go (good f to) e = absurd (not (rw e))

  pub card_passed : (f : Forest) → CardText L words t f → judged_of L words t ≡ passed f
  card_passed f c = (judging.accepted L words t f).1 (length t, readable_good L words t f c.readable, card_keeps L words t f c)

  pub passed_card : (f : Forest) → judged_of L words t ≡ passed f → CardText L words t f
  passed_card f e = let (to, whole, keeps) = (judging.accepted L words t f).0 e in card_text L words t f (read_so L words t whole) keeps

  pub judge_passes : Passes (served L) (judge t words) ↔ ((f : Forest) × CardText L words t f)
  unfolding served sheet_of_judged paper_of_verdict
  judge_passes = (λ e. go (judged_of L words t) refl e, λ (f, c). rw (card_passed f c))
    where
      go : (j : Judged) → judged_of L words t ≡ j → (sheet_of_judged j).number ≡ 0 → (f : Forest) × CardText L words t f
      go (failed r) k e = absurd (omega (arith, card_some (refused_card r).number (line_of (card_line r))))
      go (passed f) k e = (f, passed_card f k)

  pub judge_rows : (f : Forest) → CardText L words t f → served L (judge t words) ≡ served L (read t words)
  unfolding served sheet_of table_of sheet_of_judged paper_of_verdict table_of_judged
  judge_rows f c = rw (card_passed f c, readable_good L words t f c.readable)

  pub judge_offends : (n p : ℕ) → Passes (served L) (read t words) → 0 < n → ((served L (judge t words)).answer ≡ numbers n p 0) ↔ Offends L words t n p
  unfolding served sheet_of
  judge_offends n p fine some = (λ e. go ((judging.answer L words t _ _).0 (refl, refl)) e, λ o. sym ((judging.answer L words t _ _).1 (offends o)).0)
    where
      go : {q : Paper} {table : List ℕ} → CardAnswer L words t q table → q ≡ numbers n p 0 → Offends L words t n p
      go (unread {r = r} u) e =
          let z : (sheet_of (bad r)).number ≡ 0 = rw (unreadable_bad L words t u) at fine in absurd (omega (arith, line_of (text_line r)))
      go (passes c) e = absurd (omega (arith, same_number e))
      go (offends o) e = rw (same_number e, same_second e) at o
