-- From the search of a card's rows to the verdict on its text:
--     card-value, card-kinds      the root of a text that was read
--     card-place                  the place of a breach is a word of its row
--     read-into                   what reading's answer says of the rows
--     rows-judged, text-refused   the verdict after the rows, and after a refusal of reading
--     passed-rows, failed-rows    what the verdict says of the text and the table
--     rows_fit                    the rows that it counts fit the table
--     judged-cleared, judged-refused      and so to judging's contract
-- Assumes nothing.
use Rattle.std.specs.Prelude.{Result, Ok, Err}
use Prim.Native.Nat.{ℕ, ◌+◌, ◌*◌, ◌-◌, ◌≤◌}
use mathlib.Core.Path.{◌≡◌, refl, sym, ap, ◌∙◌}
use mathlib.Core.List.{List}
use native.Mathlib.Nat.{sub-zero}
use native.Mathlib.Omega.{arith}
use lib.ListN.{length, get_or, replicate}
use lib.Seq.{sets}
use borrow.Rule.Slice.PartMut.{mid_of, put_mid}
use Rattle.text.specs.Limits.{Limits, row_words}
use Rattle.text.specs.Tree.{Forest, size, tree_rows, starts_of}
use Rattle.text.specs.Firsts.{Kinds}
use Rattle.text.specs.Doc.{doc_of}
use Rattle.text.specs.Reader.{good}
use Rattle.text.specs.Whole.{whole_of}
use Rattle.text.specs.declared.Refusal.{Refusal}
use Rattle.text.proofs.Promise.{placed_kinds, start_at_lem, whole_good}
use Rattle.json_reader.specs.Rows.{start_in}
use Rattle.json_reader.specs.Answers.{ReadsRows}
use Rattle.json_reader.proofs.Kept.{rows_there, refused_there, tail_cleared}
use Rattle.contact.specs.Judge.{Breach, nothing, found, card_breach}
use Rattle.contact.specs.Verdict.{fault_of, by_breach, judged_read, Judged, passed, failed, judged_of, answer_of_judged, paper_of_verdict, sheet_of_judged, table_of_judged}
use Rattle.contact.specs.Judging.{Judges}
use Rattle.contact.specs.declared.CardRefusal.{CardRefusal}
use Rattle.contact.specs.declared.CardRefusal.TheVariants.{Text, Card}
use Rattle.contact.proofs.Judging.{judging}
use Rattle.card.specs.Rows.{ValueAt}
use Rattle.card.specs.Judged.{ReadInto, ByBreach, JudgedRows, kept_of_judged, JudgesRows, RowsFit}

module _ {L : Limits} {t table : List ℕ} {n : ℕ} {f : Forest} (h : ReadInto L t table n f) where
  pub card_value : ValueAt table 0 f
  card_value = record { some = h.filled.promised.some; stands = h.filled.stands.stands }

  pub card_kinds : Kinds f
  card_kinds = placed_kinds h.filled.promised.placed

  pub card_place : (row number : ℕ) → card_breach (doc_of t f) ≡ found row number → get_or (starts_of f) row 0 ≡ start_in table row
  card_place row number e =
      let lt = judging.place L (length table) t f h.end row number h.whole ((judging.first (doc_of t f) row number).0 e) in
      let same_row : 0 + row ≡ row = omega arith in
      rw same_row at (start_at_lem f h.filled.stands row lt)

-- ---- reading's answer ----

pub read_into : (L : Limits) (t lent table : List ℕ) (n : ℕ) → length table ≡ length lent → ReadsRows L t lent (Ok n) table
    → (f : Forest) × ReadInto L t table n f × (table ≡ sets lent 0 (tree_rows f))
read_into L t lent table n l h =
    let (s, room, filled) = rows_there h in
    (s.trees, record { filled = filled; count = sym s.count; end = s.to; whole = rw l s.is }, s.table)

-- ---- the verdict ----

module _ (L : Limits) (t lent new : List ℕ) where
  passes : (n : ℕ) (f : Forest) (to : ℕ) (r : Result ℕ CardRefusal) → whole_of L (length lent) t ≡ good f to → size f ≡ n → card_breach (doc_of t f) ≡ nothing
      → r ≡ Ok n → new ≡ sets lent 0 (tree_rows f) → JudgesRows L t lent r new
  unfolding judged_of judged_read by_breach
  passes n f to r w c e p q = record { answered = rw (p, w, e, c); left = rw (w, e) q }

  fails : (f : Forest) (to row number : ℕ) (r : Result ℕ CardRefusal) → whole_of L (length lent) t ≡ good f to → card_breach (doc_of t f) ≡ found row number
      → r ≡ Err (Card (fault_of number (get_or (starts_of f) row 0))) → new ≡ replicate (length lent) 0 → JudgesRows L t lent r new
  unfolding judged_of judged_read by_breach
  fails f to row number r w e p q = record { answered = rw (p, w, e); left = rw (w, e) q }

  pub text_refused : (r : Refusal) → ReadsRows L t lent (Err r) new → JudgesRows L t lent (Err (Text r)) new
  unfolding judged_of judged_read
  text_refused r h = let (w, zeros) = refused_there h in record { answered = rw w; left = rw w zeros }

pub rows_judged : (L : Limits) (t lent old new : List ℕ) (n : ℕ) (f : Forest) (r : Result ℕ CardRefusal) → length old ≡ length lent → ReadInto L t old n f
    → old ≡ sets lent 0 (tree_rows f) → JudgedRows t old n f r new → JudgesRows L t lent r new
rows_judged L t lent old new n f r l h is j = go (card_breach (doc_of t f)) refl j
  where
    whole : whole_of L (length lent) t ≡ good f h.end
    whole = rw l at h.whole

    go : (b : Breach) → card_breach (doc_of t f) ≡ b → ByBreach old n f b r new → JudgesRows L t lent r new
    go nothing e p = passes L t lent new n f h.end r whole h.count e p.0 (p.1 ∙ is)
    go (found row number) e p = fails L t lent new f h.end row number r whole e p.0 (p.1 ∙ ap (λ k. replicate k 0) l)

-- ---- clearing ----

-- a card that passed: its tree, and its rows over the first words of the table
pub record PassedRows (L : Limits) (t lent table : List ℕ) (n : ℕ) : Type 0 where
  pub tree : Forest
  pub is : judged_of L (length lent) t ≡ passed tree
  pub count : n ≡ size tree
  pub rows : table ≡ sets lent 0 (tree_rows tree)
  pub room : row_words * size tree ≤ length lent

module _ {L : Limits} {t lent table : List ℕ} where
  module _ {n : ℕ} (h : JudgesRows L t lent (Ok n) table) where
    pub passed_rows : PassedRows L t lent table n
    passed_rows = go (judged_of L (length lent) t) refl
      where
        go : (o : Judged) → judged_of L (length lent) t ≡ o → PassedRows L t lent table n
        go (passed f) e =
            let answer : Ok n ≡ Ok (size f) = h.answered ∙ ap answer_of_judged e in
            let (to, whole, keeps) = (judging.accepted L (length lent) t f).0 e in
            record { tree = f; is = e; count = cc; rows = h.left ∙ ap (kept_of_judged lent) e; room = (whole_good L (length lent) t f to whole).room }
        go (failed r) e =
            let answer : Ok n ≡ Err r = h.answered ∙ ap answer_of_judged e in
            let z : ◌≡◌ {A = ℕ} 0 1 = cc in
            absurd (omega arith)

    pub judged_cleared : {rest : List ℕ} → rest ≡ replicate (length (mid_of (n * row_words) (length table - n * row_words) table)) 0
        → Judges L t lent (Ok n) (put_mid (n * row_words) (length table - n * row_words) table rest)
    unfolding sheet_of_judged table_of_judged
    judged_cleared clear =
        let p = passed_rows in
        record {
          answered = ap paper_of_verdict h.answered;
          table = tail_cleared p.tree lent p.room p.rows n p.count clear ∙ rw p.is;
        }

  module _ {r : CardRefusal} (h : JudgesRows L t lent (Err r) table) where
    pub failed_rows : (judged_of L (length lent) t ≡ failed r) × (table ≡ replicate (length lent) 0)
    failed_rows = go (judged_of L (length lent) t) refl
      where
        go : (o : Judged) → judged_of L (length lent) t ≡ o → (judged_of L (length lent) t ≡ failed r) × (table ≡ replicate (length lent) 0)
        go (passed f) e =
            let answer : Err r ≡ Ok (size f) = h.answered ∙ ap answer_of_judged e in
            let z : ◌≡◌ {A = ℕ} 0 1 = cc in
            absurd (omega arith)
        go (failed q) e =
            let answer : Err r ≡ Err q = h.answered ∙ ap answer_of_judged e in
            let same : q ≡ r = cc in
            (e ∙ ap failed same, h.left ∙ ap (kept_of_judged lent) e)

    pub judged_refused : Judges L t lent (Err r) table
    unfolding sheet_of_judged table_of_judged
    judged_refused = record { answered = ap paper_of_verdict h.answered; table = failed_rows.1 ∙ rw (failed_rows.0, sub-zero) }

-- the rows that a verdict counts fit the table
pub rows_fit : (L : Limits) (t lent table : List ℕ) (v : Result ℕ CardRefusal) → length table ≡ length lent → JudgesRows L t lent v table → RowsFit v table
rows_fit L t lent table (Ok n) long h = let p = passed_rows h in omega (arith, p.room, p.count)
rows_fit L t lent table (Err r) long h = tt
