-- From the bytes laid to packing's contract:
--     finished-wide, finished-short, finished-whole     the three ways in which `finish` ends
--     packs-refused                                     the text is refused
--     packs-finished                                    it is read, its packing is laid, and `finish` ends
-- Assumes nothing.
use Rattle.std.specs.Prelude.{Result, Ok, Err}
use Rattle.packing.specs.declared.PackRefusal.{PackRefusal}
use Prim.Native.Nat.{ℕ, ◌-◌, ◌≤◌, ◌<◌}
use mathlib.Core.Path.{◌≡◌, ◌∙◌}
use mathlib.Core.List.{List, [], ◌++◌, append_assoc}
use native.Mathlib.Decide.{dec_le}
use native.Mathlib.Nat.{sub-zero}
use native.Mathlib.Omega.{arith}
use lib.ListN.{length, take, replicate}
use lib.Seq.{sets, sets-eq, take-append_seam}
use borrow.Author.Tests.{lt-ltb, le-ltb}
use borrow.Rule.Slice.PartMut.{mid_of, put_mid}
use Rattle.laws.specs.Lists.{filled}
use Rattle.text.specs.Limits.{Limits}
use Rattle.text.specs.Tree.{Forest}
use Rattle.text.specs.Reader.{good}
use Rattle.text.specs.Whole.{whole_of, table_of, Reads}
use Rattle.text.specs.Doc.{doc_of}
use Rattle.text.specs.declared.Refusal.{Refusal}
use Rattle.text.proofs.Promise.{AcceptedWhole, rows_tree, refusal_is, placed_kinds}
use Rattle.json_reader.specs.Lookup.{KnownAt}
use Rattle.json_reader.proofs.Kept.{rest_cleared}
use Rattle.output.specs.Written.{full, CountedPlace}
use Rattle.packing.specs.Packed.{packed, widest, widest_allowed}
use Rattle.packing.specs.Services.{stored, unstored, pack_read, pack_of, answer_of_stored, table_of_stored, output_of_stored, Packs}
use Rattle.packing.specs.declared.PackRefusal.TheVariants.{Given, Wide, Short}
use Rattle.packing.proofs.Widest.{fits_whole}
use Rattle.vault.specs.Laid.{longest, LaidValue, Finished}

-- ---- how `finish` ends ----

-- a buffer of zeros
cleared : {l : List ℕ} (n : ℕ) → l ≡ replicate n 0 → l ≡ filled n []
cleared n e = e ∙ rw sub-zero

module _ {rows len : ℕ} {out table : List ℕ} where
  module _ {table' out' : List ℕ} (e : table' ≡ replicate (length table) 0) (f : out' ≡ replicate (length out) 0) where
    pub finished_wide : longest < len → Finished rows len out table (Err Wide) table' out'
    finished_wide h =
        let wide = lt-ltb longest len h in
        record { answered = rw wide; left = rw wide (cleared (length table) e); bytes = rw wide (cleared (length out) f) }

    pub finished_short : len ≤ longest → length out < len → Finished rows len out table (Err (Short len)) table' out'
    finished_short h k =
        let whole = le-ltb longest len h in
        let short = lt-ltb (length out) len k in
        record {
          answered = rw (whole, short);
          left = rw (whole, short) (cleared (length table) e);
          bytes = rw (whole, short) (cleared (length out) f);
        }

  pub finished_whole : len ≤ longest → len ≤ length out → {rest : List ℕ} → rest ≡ replicate (length (mid_of len (length out - len) out)) 0
      → Finished rows len out table (Ok (rows, len)) table (put_mid len (length out - len) out rest)
  finished_whole h k e =
      let whole = le-ltb longest len h in
      let room = le-ltb (length out) len k in
      record { answered = rw (whole, room); left = rw (whole, room); bytes = rw (whole, room) (rest_cleared out len k e) }

-- ---- what packing answers on a text that is read ----

-- a place behind the longest packing is said so, counted or not
longer : {n r : ℕ} → CountedPlace n r → longest < n → longest < r
longer {n} {r} c h =
    elim (dec_le full n) [
      | yes le ↦ let g : full ≤ r = c.past le in omega arith
      | no lt ↦ let e : r ≡ n = c.exact (omega arith) in omega arith
    ]

module _ (L : Limits) (words room : ℕ) (t : List ℕ) {f : Forest} {to : ℕ} (w : whole_of L words t ≡ good f to) where
  so_wide : longest < length (packed (doc_of t f)) → pack_of L words room t ≡ unstored Wide
  unfolding pack_of pack_read
  so_wide h = rw (w, lt-ltb widest_allowed (widest (doc_of t f)) wide)
    where
      wide : widest_allowed < widest (doc_of t f)
      wide = elim (dec_le (widest (doc_of t f)) widest_allowed) [
        | yes le ↦ absurd (omega (arith, (fits_whole (doc_of t f)).0 le))
        | no gt ↦ omega arith
      ]

  module _ (h : length (packed (doc_of t f)) ≤ longest) where
    so_short : room < length (packed (doc_of t f)) → pack_of L words room t ≡ unstored (Short (length (packed (doc_of t f))))
    unfolding pack_of pack_read
    so_short k = rw (w, le-ltb widest_allowed (widest (doc_of t f)) ((fits_whole (doc_of t f)).1 h), lt-ltb room (length (packed (doc_of t f))) k)

    so_whole : length (packed (doc_of t f)) ≤ room → pack_of L words room t ≡ stored f (packed (doc_of t f))
    unfolding pack_of pack_read
    so_whole k = rw (w, le-ltb widest_allowed (widest (doc_of t f)) ((fits_whole (doc_of t f)).1 h), le-ltb room (length (packed (doc_of t f))) k)

-- ---- contracts ----

module _ (L : Limits) (words : ℕ) (t : List ℕ) where
  pub packs_refused : (room : ℕ) {r : Refusal} {table out : List ℕ} → Reads L words t (Err r) table → out ≡ replicate room 0
      → Packs L words room t (Err (Given r)) table out
  unfolding pack_of pack_read answer_of_stored table_of_stored output_of_stored
  packs_refused room {r} {table} h e =
      let w = refusal_is L words t table r h in
      record { answered = rw w.whole; left = rw w.whole w.cleared; bytes = rw w.whole (cleared room e) }

  -- the root of a text that is read
  pub root_known : {n : ℕ} {table : List ℕ} (a : AcceptedWhole L words t table n) → KnownAt table 0 a.tree
  root_known a =
      let p = a.filled_by.promised in
      record { some = p.some; kinds = placed_kinds p.placed; stands = a.filled_by.stands.stands }

  -- all of the bytes were stored, and what is behind them is cleared
  whole_filled : (p old : List ℕ) {len : ℕ} {out : List ℕ} → len ≡ length p → out ≡ sets old 0 p → length p ≤ length old
      → take len out ++ replicate (length old - len) 0 ≡ filled (length old) p
  whole_filled p old e is h = rw (e, is, sets-eq p old 0 (omega arith), append_assoc, take-append_seam)

  pub packs_finished : {n : ℕ} {table old out : List ℕ} {len : ℕ} → Reads L words t (Ok n) table → LaidValue t table 0 old 0 out len
      → length table ≡ words
      → {answer : (Result (ℕ × ℕ) PackRefusal)} {table' out' : List ℕ} → Finished n len out table answer table' out' → Packs L words (length old) t answer table' out'
  unfolding table_of answer_of_stored table_of_stored output_of_stored
  packs_finished {n} {table} {old} {out} {len} reads laid-value long fin =
      let a = rows_tree L words t table n reads in
      let p : List ℕ = packed (doc_of t a.tree) in
      let laid = laid-value a.tree (root_known a) in
      let same : length out ≡ length old = laid.long in
      elim (dec_le (length p) longest) [
        | yes le ↦
            let counted = laid.to.exact (omega arith) in
            let here : len ≡ length p = omega arith in
            let whole = le-ltb longest len (omega arith) in
            elim (dec_le (length p) (length old)) [
              | yes fits ↦
                  let so = so_whole L words (length old) t a.whole le fits in
                  let roomy = le-ltb (length out) len (omega arith) in
                  record {
                    answered = (rw (whole, roomy) at fin.answered) ∙ rw (so, a.count, here);
                    left = (rw (whole, roomy) at fin.left) ∙ reads.left ∙ rw (a.whole, so);
                    bytes = (rw (whole, roomy, same) at fin.bytes) ∙ whole_filled p old here (laid.out (omega arith)) fits ∙ rw so;
                  }
              | no over ↦
                  let so = so_short L words (length old) t a.whole le (omega arith) in
                  let short = lt-ltb (length out) len (omega arith) in
                  record {
                    answered = (rw (whole, short) at fin.answered) ∙ rw (so, here);
                    left = (rw (whole, short, long) at fin.left) ∙ rw so;
                    bytes = (rw (whole, short, same) at fin.bytes) ∙ rw so;
                  }
            ]
        | no gt ↦
            let so = so_wide L words (length old) t a.whole (omega arith) in
            let wide = lt-ltb longest len (longer laid.to (omega arith)) in
            record {
              answered = (rw wide at fin.answered) ∙ rw so;
              left = (rw (wide, long) at fin.left) ∙ rw so;
              bytes = (rw (wide, same) at fin.bytes) ∙ rw so;
            }
      ]
