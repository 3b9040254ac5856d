-- A table that was read into, before and after it is cleared:
--     kept-rows, kept-none           from a reading's answer to `ReadsRows` (specs/Answers.antt)
--     rows-there, refused-there      what `ReadsRows` says of the text and the table
--     one-outcome                    two outcomes that it allows are equal
--     rest-cleared, tail-cleared     clearing behind what is used, and behind the rows
--     read-cleared, read-refused     and so to reading's contract
-- Assumes nothing.
use Rattle.std.specs.Prelude.{Result, Ok, Err}
use Prim.Native.Nat.{ℕ, ◌+◌, ◌*◌, ◌-◌, ◌≤◌}
use mathlib.Core.Path.{◌≡◌, refl, sym, ap, ◌∙◌}
use mathlib.Core.List.{List, ◌++◌, append_assoc, append-nil}
use native.Mathlib.Nat.{sub-zero}
use native.Mathlib.Omega.{arith}
use lib.ListN.{length, take, drop, replicate}
use lib.Seq.{sets, sets-eq, length-sets, drop-length, take-append_seam}
use borrow.Rule.Slice.PartMut.{mid_of, put_mid, mid_len, Post-is}
use Rattle.laws.specs.Lists.{filled}
use Rattle.text.specs.Limits.{Limits, row_words}
use Rattle.text.specs.Tree.{Forest, size, tree_rows}
use Rattle.text.specs.Standing.{StandsTo}
use Rattle.text.specs.Promised.{Filled}
use Rattle.text.specs.Reader.{bad}
use Rattle.text.specs.Sheet.{paper}
use Rattle.text.specs.Whole.{whole_of, sheet_of, table_of, Reads}
use Rattle.text.specs.declared.Refusal.{Refusal}
use Rattle.text.proofs.Standing.{LinkedAt, tree_length, rows_stand, rows_linked}
use Rattle.text.proofs.Promise.{paper_unique, fills, rows_tree, refusal_is}
use Rattle.json_reader.specs.Answers.{kept_of, ReadsRows, Stored, Ended}

pub one_outcome : (L : Limits) (t old : List ℕ) (a b : Result ℕ Refusal) (x y : List ℕ) → ReadsRows L t old a x → ReadsRows L t old b y → (a ≡ b) × (x ≡ y)
one_outcome L t old a b x y h k = (paper_unique a b (h.answered ∙ sym k.answered), h.left ∙ sym k.left)

-- ---- clearing

-- behind what is used the table is cleared
pub rest_cleared : (l : List ℕ) (n : ℕ) → n ≤ length l → {rest : List ℕ} → rest ≡ replicate (length (mid_of n (length l - n) l)) 0
    → put_mid n (length l - n) l rest ≡ take n l ++ replicate (length l - n) 0
rest_cleared l n h e = rw (e, mid_len n (length l) l (omega arith), Post-is n (length l) l h, drop-length, append-nil)

take_sets : (vs l : List ℕ) → length vs ≤ length l → take (length vs) (sets l 0 vs) ++ replicate (length l - length vs) 0 ≡ filled (length l) vs
take_sets vs l h = rw (sets-eq vs l 0 (omega arith), append_assoc, take-append_seam)

-- the rows were written over a table's first words
module _ (f : Forest) (old : List ℕ) (room : row_words * size f ≤ length old) {mid : List ℕ} (is : mid ≡ sets old 0 (tree_rows f)) where
  pub rows_stay : StandsTo mid 0 (size f) f
  rows_stay =
      let h = tree_length f in
      record {
        stands = rows_stand mid 0 0 0 f (drop (0 + length (tree_rows f)) old) (omega arith) (is ∙ sets-eq (tree_rows f) old 0 (omega arith));
        ends = omega arith;
      }

  pub links_stay : LinkedAt mid 0 0 0 f
  links_stay = let h = tree_length f in rows_linked mid 0 0 0 f (drop (0 + length (tree_rows f)) old) (is ∙ sets-eq (tree_rows f) old 0 (omega arith))

  pub tail_cleared : (n : ℕ) → n ≡ size f → {rest : List ℕ} → rest ≡ replicate (length (mid_of (n * row_words) (length mid - n * row_words) mid)) 0
      → put_mid (n * row_words) (length mid - n * row_words) mid rest ≡ filled (length old) (tree_rows f)
  tail_cleared n count clear =
      let h = tree_length f in
      let used : n * row_words ≡ length (tree_rows f) = omega arith in
      let long : length mid ≡ length old = ap length is ∙ length-sets old 0 (tree_rows f) in
      rest_cleared mid (n * row_words) (omega arith) clear ∙ rw (long, is, used) (take_sets (tree_rows f) old (omega arith))

-- ---- reading

module _ {L : Limits} {t old : List ℕ} where
  pub kept_rows : {n : ℕ} {new : List ℕ} → Ended (whole_of L (length old) t) old new (Ok n) → ReadsRows L t old (Ok n) new
  unfolding paper sheet_of
  kept_rows (s, few) = record { answered = rw (s.is, s.count); left = rw s.is s.table }

  pub kept_none : (mid : List ℕ) {r : Refusal} {new : List ℕ} → Ended (whole_of L (length old) t) old mid (Err r) → length mid ≡ length old
      → new ≡ replicate (length mid) 0 → ReadsRows L t old (Err r) new
  unfolding paper sheet_of
  kept_none mid s long e = record { answered = rw s; left = e ∙ rw (s, long) }

  -- what the reading layer promises is said of the table that is cleared behind the rows
  as_read : {a : (Result ℕ Refusal)} {new : List ℕ} → ReadsRows L t old a new → Reads L (length old) t a (table_of (length old) (whole_of L (length old) t))
  as_read h = record { answered = h.answered; left = refl }

  module _ {n : ℕ} {new : List ℕ} (h : ReadsRows L t old (Ok n) new) where
    pub rows_there : (s : Stored (whole_of L (length old) t) old new n) × (n * row_words ≤ length old) × Filled L t new n s.trees
    rows_there =
        let a = rows_tree L (length old) t _ n (as_read h) in
        let is : new ≡ sets old 0 (tree_rows a.tree) = h.left ∙ ap (kept_of old) a.whole in
        let room : row_words * size a.tree ≤ length old = omega (arith, a.room, a.count) in (
          record { trees = a.tree; to = a.end; is = a.whole; count = sym a.count; table = is },
          omega (arith, a.room),
          fills a.filled_by.promised (rw a.count at (rows_stay a.tree old room is)) (links_stay a.tree old room is),
        )

    pub read_cleared : {rest : List ℕ} → rest ≡ replicate (length (mid_of (n * row_words) (length new - n * row_words) new)) 0
        → Reads L (length old) t (Ok n) (put_mid (n * row_words) (length new - n * row_words) new rest)
    unfolding table_of
    read_cleared clear =
        let (s, room, filled) = rows_there in
        record {
          answered = h.answered;
          left = tail_cleared s.trees old (omega (arith, s.count)) s.table n s.count clear ∙ rw s.is;
        }

  module _ {r : Refusal} {new : List ℕ} (h : ReadsRows L t old (Err r) new) where
    pub refused_there : (whole_of L (length old) t ≡ bad r) × (new ≡ replicate (length old) 0)
    refused_there = let w = (refusal_is L (length old) t _ r (as_read h)).whole in (w, h.left ∙ ap (kept_of old) w)

    pub read_refused : Reads L (length old) t (Err r) new
    unfolding table_of
    read_refused = record { answered = h.answered; left = refused_there.1 ∙ rw (refused_there.0, sub-zero) }
