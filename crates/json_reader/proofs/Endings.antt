-- Laws of whole texts, one for each way that the code goes:
--     text-stop, text-more, text-good      a text within the limit of bytes, by its value and what follows it
--     in-room-ended                        a text that was read, and a table that has room for its rows or hasn't
--     counted                              rows are within the limit
-- Assumes nothing.
use Rattle.std.specs.Prelude.{Result, Ok, Err}
use Prim.Native.Nat.{ℕ, ◌*◌, ◌≤◌, ◌<◌}
use mathlib.Core.Path.{◌≡◌, refl, ◌∙◌}
use mathlib.Core.Bool.{Bool, true, false, cond}
use native.Mathlib.Omega.{arith}
use lib.Dec.{ltb}
use mathlib.Core.List.{List}
use lib.ListN.{length}
use borrow.Author.Tests.{lt-ltb, le-ltb, ltb-true, ltb-false}
use Rattle.text.specs.Limits.{Limits, row_words}
use Rattle.text.specs.Tokens.{skip}
use Rattle.text.specs.Tree.{Forest}
use Rattle.text.specs.Reader.{Read, good, bad, value_at}
use Rattle.text.specs.Whole.{end_of, read_of, whole_of}
use Rattle.text.specs.declared.Refusal.{Refusal}
use Rattle.text.specs.declared.Refusal.TheVariants.{Grammar, Small}
use Rattle.text.proofs.Fewer.{whole_bad, good_whole, small_whole}
use Rattle.json_reader.specs.Answers.{Ended, Counted, in_room}

-- ---- a text by its value and what follows it ----

module _ (L : Limits) (t : List ℕ) (h : length t ≤ L.bytes) where
  short : read_of L t ≡ end_of t (value_at L t L.depth 0 0 (skip t 0) 0)
  unfolding read_of
  short = rw (le-ltb _ _ h)

  pub text_stop : (r : Refusal) → value_at L t L.depth 0 0 (skip t 0) 0 ≡ bad r → read_of L t ≡ bad r
  unfolding end_of
  text_stop r e = short ∙ rw e

  module _ (f : Forest) (to end : ℕ) (e : value_at L t L.depth 0 0 (skip t 0) 0 ≡ good f to) (s : end ≡ skip t to) where
    pub text_more : end < length t → read_of L t ≡ bad (Grammar end)
    unfolding end_of
    text_more k = short ∙ rw (e, ← s, lt-ltb _ _ k)

    pub text_good : length t ≤ end → read_of L t ≡ good f end
    unfolding end_of
    text_good k = short ∙ rw (e, ← s, le-ltb _ _ k)

-- ---- a table of so many words ----

module _ (L : Limits) (words : ℕ) (t old new : List ℕ) (n : ℕ) (s : Ended (read_of L t) old new (Ok n)) where
  whole_fits : row_words * n ≤ words → Ended (whole_of L words t) old new (Ok n)
  whole_fits h =
      let r = s.0 in (
        record {
          trees = r.trees;
          to = r.to;
          is = good_whole L words t r.trees r.to (rw r.count at h) r.is;
          count = r.count;
          table = r.table;
        },
        s.1,
      )

  whole_small : words < row_words * n → whole_of L words t ≡ bad (Small n)
  whole_small h = let r = s.0 in small_whole L words t r.trees r.to (rw r.count at h) r.is ∙ rw r.count

pub in_room_ended : (L : Limits) (t old mid : List ℕ) (read : Result ℕ Refusal) → length mid ≡ length old → Ended (read_of L t) old mid read
    → Ended (whole_of L (length old) t) old mid (in_room (length mid) read)
in_room_ended L t old mid (Err r) long s = whole_bad L (length old) t r s
in_room_ended L t old mid (Ok n) long s = go (ltb (length mid) (row_words * n)) refl
  where
    go : (b : Bool) → ltb (length mid) (row_words * n) ≡ b → Ended (whole_of L (length old) t) old mid (cond b (Err (Small n)) (Ok n))
    go true e = whole_small L (length old) t old mid n s (omega (arith, ltb-true (length mid) (row_words * n) e))
    go false e = whole_fits L (length old) t old mid n s (omega (arith, ltb-false (length mid) (row_words * n) e))

pub counted : (R : Read) (old new : List ℕ) (read : Result ℕ Refusal) → Ended R old new read → Counted read
counted R old new (Ok n) s = s.1
counted R old new (Err r) s = tt
