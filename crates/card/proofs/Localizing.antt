-- From what was written and judged to the outcome of localizing:
--     card-there                     judging left the card's rows in the table
--     judged-by                      that text is judged: its rows, or 28
--     given_so, refused-so, written-so       what is answered before the output is cleared
--     localizes                      and what clearing leaves
-- Assumes nothing.
use Rattle.std.specs.Prelude.{Result, Ok, Err}
use Prim.Native.Nat.{ℕ, ◌-◌, ◌≤◌}
use mathlib.Core.Path.{◌≡◌, refl, ap, ◌∙◌}
use mathlib.Core.Bool.{Bool, true, false, cond}
use mathlib.Core.List.{List, ◌++◌}
use native.Mathlib.Omega.{arith}
use native.Mathlib.Nat.{sub-zero}
use lib.ListN.{length, take, replicate}
use lib.Seq.{sets, length-take-le, sets-eq, length-sets, take-append_seam}
use lib.Dec.{ltb}
use borrow.Author.Tests.{ltb-true, ltb-false}
use borrow.Rule.Slice.PartMut.{mid_of, put_mid}
use Rattle.json_reader.proofs.Kept.{rest_cleared, rows_stay}
use Rattle.text.specs.Limits.{base, loose}
use Rattle.text.specs.Tree.{Forest}
use Rattle.text.specs.Doc.{Name, doc_of}
use Rattle.contact.specs.Verdict.{Judged, passed, failed, judged_of, answer_of_judged, table_of_judged}
use Rattle.contact.specs.Localize.{Outcome, done, denied, by_judge, by_room, localized_doc, localized_of, answer_of_outcome, table_of_outcome, output_of_outcome}
use Rattle.contact.specs.Places.{key_place}
use Rattle.contact.specs.Judging.{Judges}
use Rattle.contact.specs.Contract.{Localizes}
use Rattle.contact.specs.declared.CardRefusal.{CardRefusal}
use Rattle.contact.specs.declared.LocalRefusal.{LocalRefusal}
use Rattle.contact.specs.declared.LocalRefusal.TheVariants.{Given, Short, Inner}
use Rattle.contact.proofs.Patching.Public.{given_iff, passed_so}
use Rattle.contact.proofs.Patching.Readback.{card_writable, judged_loose}
use Rattle.contact.proofs.Patching.Contract.{paper_follows}
use Rattle.contact.proofs.Patching.Steps.{judged_answer, short_so, room_so}
use Rattle.card.specs.Localizing.{judged_outcome, Composed, Made, Yields, BeginsWith, Answers}
use Rattle.answers.specs.ByVerdict.{by_verdict, used_by}
use Rattle.card.specs.Judged.{JudgesRows}
use Rattle.card.proofs.Judging.Verdict.{passed_rows, failed_rows}
use Rattle.patch.specs.Drafts.{Draft, draft, refusal, draft_of, draft_outcome, CardIn, Drafted, MakesFor}
use Rattle.patch.proofs.Drafting.Drafts.{localized_draft}
use Rattle.patch.proofs.Drafting.Sayable.{Sayable, draft_sayable}

-- ---- what judging left

pub card_there : {t lent table : List ℕ} {n : ℕ} → JudgesRows base t lent (Ok n) table → length table ≡ length lent → (f : Forest) × CardIn t table f
card_there {t} {lent} j long =
    let p = passed_rows j in
    (p.tree, record { passes = rw long p.is; rows = (rows_stay p.tree lent p.room p.rows).stands })

-- ---- what was written of it

-- a draft that has room is judged, without comparing its names; one that has none is 27
module _ (words : ℕ) (t old new : List ℕ) (is : new ≡ sets old 0 t) (said : Sayable (draft t)) where
  alike : judged_of (loose base) words t ≡ judged_of base words t
  alike = let (x, e, w) = said in rw e (judged_loose base words x w)

  front : length t ≤ length old → take (length t) new ≡ t
  front h = rw (is, sets-eq t old 0 (omega (arith, h))) (take-append_seam t _)

  made_draft : (b : Bool) → ltb (length old) (length t) ≡ b
      → Made words (length old) (by_room base words (length old) t) new (cond b (Err (Short (length t))) (Ok (length t)))
  made_draft true h = short_so base words (length old) t (ltb-true (length old) (length t) h)
  made_draft false h =
      let room = ltb-false (length old) (length t) h in
      record {
        fits = omega (arith, room, ap length is ∙ length-sets old 0 t);
        is = rw (front room, alike) (room_so base words (length old) t room);
      }

made_of : (words : ℕ) (d : Draft) (old new : List ℕ) (r : Result ℕ LocalRefusal) → Sayable d → Drafted d old new r
    → Made words (length old) (draft_outcome base words (length old) d) new r
made_of words (refusal q tried) old new r said (e, same) = rw e refl
made_of words (draft t) old new r said (e, is) = rw e (made_draft words t old new is said (ltb (length old) (length t)) refl)

-- ---- 28

module _ {t lent table : List ℕ} (room : ℕ) where
  judged_passed : {rows n : ℕ} → Judges (loose base) t lent (Ok rows) table → length t ≡ n
      → Yields (length lent) (judged_outcome (length lent) room t) (Ok (rows, n)) table
  unfolding by_judge answer_of_outcome table_of_outcome table_of_judged
  judged_passed {rows} {n} j long =
      go (judged_of (loose base) (length lent) t) (judged_answer (Ok rows) (judged_of (loose base) (length lent) t) j.answered) j.table
    where
      go : (o : Judged) → Ok rows ≡ answer_of_judged o → table ≡ table_of_judged (length lent) o
          → Yields (length lent) (by_judge base (length lent) room t o) (Ok (rows, n)) table
      go (passed f) e k = record { answer = cc; rows = k }
      go (failed r) e k = let z : ◌≡◌ {A = ℕ} 0 1 = cc in absurd (omega arith)

  judged_failed : {r : CardRefusal} → Judges (loose base) t lent (Err r) table
      → Yields (length lent) (judged_outcome (length lent) room t) (Err (Inner r)) table
  unfolding by_judge answer_of_outcome table_of_outcome table_of_judged
  judged_failed {r} j =
      go (judged_of (loose base) (length lent) t) (judged_answer (Err r) (judged_of (loose base) (length lent) t) j.answered) j.table
    where
      go : (o : Judged) → Err r ≡ answer_of_judged o → table ≡ table_of_judged (length lent) o
          → Yields (length lent) (by_judge base (length lent) room t o) (Err (Inner r)) table
      go (passed f) e k = let z : ◌≡◌ {A = ℕ} 0 1 = cc in absurd (omega arith)
      go (failed q) e k = record { answer = cc; rows = k }

  pub judged_by : (v : Result ℕ CardRefusal) {n : ℕ} → Judges (loose base) t lent v table → length t ≡ n
      → Yields (length lent) (judged_outcome (length lent) room t) (by_verdict v n) table
  judged_by (Ok rows) j long = judged_passed j long
  judged_by (Err r) j long = judged_failed j

-- ---- all but clearing the output

denied_so : {words : ℕ} {o : Outcome} {r : LocalRefusal} {table : List ℕ} (out : List ℕ) → o ≡ denied r → table ≡ replicate words 0
    → Answers words o (Err r) table out
unfolding answer_of_outcome table_of_outcome
denied_so out e zeros = rw e (record { yields = record { answer = refl; rows = rw sub-zero zeros }; begins = tt })

pub given_so : {t lent table : List ℕ} (lang : Name) (out : List ℕ) {r : CardRefusal} → JudgesRows base t lent (Err r) table
    → Answers (length lent) (localized_of base (length lent) (length out) t lang) (Err (Given r)) table out
given_so {t} {lent} lang out {r} j =
    let (is, zeros) = failed_rows j in denied_so out ((given_iff base (length lent) (length out) t lang r).1 is) zeros

judged_so : {words room n : ℕ} {o : Outcome} {r : (Result (ℕ × ℕ) LocalRefusal)} {table out : List ℕ} → Composed words room o out n
    → Yields words (judged_outcome words room (take n out)) r table → Answers words o r table out
unfolding by_judge
judged_so {words} {room} {n} {o} {r} {table} {out} c j = rw c.is (record { yields = j; begins = go (judged_of (loose base) words (take n out)) })
  where
    long : length (take n out) ≡ n
    long = length-take-le n out c.fits

    go : (v : Judged) → BeginsWith (by_judge base words room (take n out) v) out
    go (passed f) = (omega (arith, c.fits, long), rw long)
    go (failed q) = tt

-- a card that judging let pass, and what was made of it
module _ {t lent table : List ℕ} {count : ℕ} (j : JudgesRows base t lent (Ok count) table) (long : length table ≡ length lent) (old : List ℕ)
    (lang : Name) where
  abbrev room : ℕ
  room = length old

  abbrev outcome_of : Forest → Outcome
  outcome_of f = localized_doc base (length table) room (key_place t f lang) (doc_of t f) lang

  made_for : (out : List ℕ) (r : Result ℕ LocalRefusal) → MakesFor t table lang old out r → (f : Forest) → CardIn t table f
      → Made (length table) room (outcome_of f) out r
  made_for out r h f k =
      let place = key_place t f lang in
      let sayable = draft_sayable place (doc_of t f) lang (card_writable base refl (length table) t f k.passes) in
      rw (localized_draft base (length table) room place (doc_of t f) lang)
      (made_of (length table) (draft_of place (doc_of t f) lang) old out r sayable (h f k))

  -- the same of the outcome for the text
  answers_as : (f : Forest) → CardIn t table f → {r : (Result (ℕ × ℕ) LocalRefusal)} {rows out : List ℕ} → Answers (length table) (outcome_of f) r rows out
      → Answers (length lent) (localized_of base (length lent) room t lang) r rows out
  answers_as f k a = rw (← long, passed_so base (length table) room t lang f k.passes) a

  pub refused_so : {r : LocalRefusal} {rows : List ℕ} (out : List ℕ) → MakesFor t table lang old out (Err r) → rows ≡ replicate (length table) 0
      → Answers (length lent) (localized_of base (length lent) room t lang) (Err r) rows out
  refused_so {r} out h zeros = let (f, k) = card_there j long in answers_as f k (denied_so out (made_for out (Err r) h f k) zeros)

  module _ (n : ℕ) (out : List ℕ) (h : MakesFor t table lang old out (Ok n)) where
    pub fits_so : n ≤ length out
    fits_so = let (f, k) = card_there j long in (made_for out (Ok n) h f k).fits

    pub written_so : {r : (Result (ℕ × ℕ) LocalRefusal)} {rows : List ℕ} → Yields (length table) (judged_outcome (length table) room (take n out)) r rows
        → Answers (length lent) (localized_of base (length lent) room t lang) r rows out
    written_so d = let (f, k) = card_there j long in answers_as f k (judged_so (made_for out (Ok n) h f k) d)

-- ---- clearing the output

-- the used bytes of the output, and zeros behind them
record Ready (o : Outcome) (r : Result (ℕ × ℕ) LocalRefusal) (out : List ℕ) : Type 0 where
  fits : used_by r ≤ length out
  bytes : take (used_by r) out ++ replicate (length out - used_by r) 0 ≡ output_of_outcome (length out) o

ready : (o : Outcome) {r : (Result (ℕ × ℕ) LocalRefusal)} {out : List ℕ} → r ≡ answer_of_outcome o → BeginsWith o out → Ready o r out
unfolding answer_of_outcome output_of_outcome
ready (done text f) e b = rw e (record { fits = b.0; bytes = rw b.1 })
ready (denied q) e b = rw e (record { fits = omega arith; bytes = refl })

module _ {words : ℕ} {o : Outcome} {r : (Result (ℕ × ℕ) LocalRefusal)} {table out : List ℕ} (a : Answers words o r table out) {used : ℕ} (is : used ≡ used_by r) where
  all_ready : Ready o r out
  all_ready = ready o a.yields.answer a.begins

  pub used_fits : used ≤ length out
  used_fits = rw is all_ready.fits

  output_left : {room : ℕ} → length out ≡ room → {rest : List ℕ} → rest ≡ replicate (length (mid_of used (length out - used) out)) 0
      → put_mid used (length out - used) out rest ≡ output_of_outcome room o
  output_left long clear =
      rest_cleared out used used_fits clear
      ∙ ap (λ (k : ℕ). take k out ++ replicate (length out - k) 0) is
      ∙ all_ready.bytes
      ∙ ap (λ (k : ℕ). output_of_outcome k o) long

pub localizes : {words room : ℕ} {text : List ℕ} {lang : Name} {r : (Result (ℕ × ℕ) LocalRefusal)} {table out : List ℕ}
    → Answers words (localized_of base words room text lang) r table out → length out ≡ room → {used : ℕ} → used ≡ used_by r → {rest : List ℕ}
    → rest ≡ replicate (length (mid_of used (length out - used) out)) 0
    → Localizes base words room text lang r table (put_mid used (length out - used) out rest)
localizes {words} {room} {text} {lang} {r} a long is clear =
    record {
      paper = paper_follows (localized_of base words room text lang) r a.yields.answer;
      answer = a.yields.answer;
      rows = a.yields.rows;
      bytes = output_left a is long clear;
    }
