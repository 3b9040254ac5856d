-- A run of a text's bytes, stored as far as there is room:
--     run_stored, run_more    what of the run has room is copied, byte by byte
--     run_past, run-wrote     a run that is past all that is counted; one that is stored and counted
-- Assumes nothing.
use Prim.Native.Nat.{ℕ, ◌+◌, ◌-◌, ◌≤◌, ◌<◌}
use mathlib.Core.Path.{◌≡◌, sym, ap, ◌∙◌}
use mathlib.Core.List.{List, append_assoc}
use native.Mathlib.Decide.{dec_le}
use native.Mathlib.Omega.{arith}
use lib.ListN.{length, get_or, set, take, drop, length-drop, take-append-drop, drop_of_length-le}
use lib.Seq.{sets, paste, get_or-drop, get_or-take, sets-eq, length-sets, length-take-le, take-take}
use borrow.Author.Tests.{le-leb}
use Rattle.std.proofs.lemmas.List.Edits.{paste_all, paste_more}
use Rattle.laws.specs.Lists.{part_of}
use Rattle.laws.proofs.Splits.{length_part}
use Rattle.laws.proofs.Sets.{sets_append, sets_out}
use Rattle.output.specs.Written.{full, Wrote}
use Rattle.output.proofs.Bytes.{counts_same}

-- what of the run has room is copied: its first n bytes, all that there are or all that have room
module _ (text : List ℕ) (from to n : ℕ) (old : List ℕ) (at : ℕ) (up : from ≤ to) (inside : to ≤ length text) (room : n ≤ length old - at)
    (some : n ≤ to - from) (all : n < to - from → n ≡ length old - at) (within : at ≤ length old) where
  abbrev run : List ℕ
  run = take (to - from) (drop from text)

  run_is : part_of text from to ≡ run
  unfolding part_of
  run_is = rw (le-leb to (length text) inside, le-leb from to up)

  long : length (take n run) ≡ n
  long = length-take-le n run (rw (length-take-le (to - from) (drop from text) (rw length-drop (omega arith))) some)

  -- the rest has no room, or there is none
  rest_out : sets (sets old at (take n run)) (at + length (take n run)) (drop n run) ≡ sets old at (take n run)
  rest_out =
      elim (dec_le (to - from) n) [
        | yes le ↦ rw (drop_of_length-le run {i = n} (omega (arith, length-take-le (to - from) (drop from text) (rw length-drop (omega arith)), le)))
        | no lt ↦ sets_out (drop n run) (sets old at (take n run)) (at + length (take n run)) (rw (length-sets, long) (omega (arith, all (omega arith))))
      ]

  pub run_stored : paste old at (take n (drop from text)) n ≡ sets old at (part_of text from to)
  run_stored =
      let first : take n (drop from text) ≡ take n run = sym (take-take n (to - from) (drop from text) some) in
      let fits : at + length (take n run) ≤ length old = omega (arith, long) in
      ap (λ (s : List ℕ). paste old at s n) first
      ∙ paste_all old at (take n run) n (sym long)
      ∙ sym (sets-eq (take n run) old at fits ∙ rw (long, append_assoc))
      ∙ sym (ap (sets old at) (run_is ∙ sym (take-append-drop n run)) ∙ sets_append (take n run) (drop n run) old at ∙ rest_out)

-- a byte more is copied
pub run_more : (text old : List ℕ) (from at n k : ℕ) → k < n → from + n ≤ length text → at + k < length old
    → set (paste old at (take n (drop from text)) k) (at + k) (get_or text (from + k) 0) ≡ paste old at (take n (drop from text)) (k + 1)
run_more text old from at n k below inside room =
    let some : k < length (take n (drop from text)) = rw (length-take-le n (drop from text) (rw length-drop (omega arith))) below in
    let byte : get_or text (from + k) 0 ≡ get_or (take n (drop from text)) k 0 = sym (get_or-drop from text k 0) ∙ sym (get_or-take n (drop from text) k 0 below) in
    ap (set (paste old at (take n (drop from text)) k) (at + k)) byte ∙ paste_more old at (take n (drop from text)) k 0 room some

-- past all that is counted nothing is stored, and the place stays one that is past
pub run_past : {old : List ℕ} (at : ℕ) (bytes : List ℕ) → length old < full → full ≤ at → Wrote old at bytes old at
run_past {old} at bytes fits past =
    record {
      to = record { exact = λ h. absurd (omega arith); past = λ h. past };
      out = sym (sets_out bytes old at (omega arith));
      fits = fits;
    }

pub run_wrote : (text : List ℕ) (from to : ℕ) {old : List ℕ} (at : ℕ) {new : List ℕ} → from ≤ to → to ≤ length text → length old < full
    → new ≡ sets old at (part_of text from to) → Wrote old at (part_of text from to) new (at + (to - from))
run_wrote text from to at up inside fits e =
    record { to = rw (length_part text from to up inside) (counts_same (at + (to - from))); out = e; fits = fits }
