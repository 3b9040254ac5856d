-- From what was written to unpacking's contract:
--     all-below                                       the bytes of a slice are bytes
--     restores-none                                   the bytes say no document
--     restores-twice, restores-many, restores-long    they say one that breaks a limit
--     restores-short, restores-whole                  the output is too short, or holds the text
--     unpacks                                         and is cleared behind it
-- Assumes nothing.
use Rattle.std.specs.Prelude.{Some, None, Result, Ok, Err}
use Rattle.packing.specs.declared.UnpackRefusal.{UnpackRefusal}
use Rattle.packing.specs.declared.UnpackRefusal.TheVariants.{NotPacked, TooShort}
use Prim.Native.Nat.{ℕ, suc, ◌-◌, ◌≤◌, ◌<◌}
use mathlib.Core.Path.{◌≡◌, refl, ap, ◌∙◌}
use mathlib.Core.List.{List, [], ◌∷◌, append_assoc}
use mathlib.Core.Bool.{Bool, true, false, cond}
use mathlib.Core.Option.{Option as Maybe, none, some}
use native.Mathlib.Decide.{dec_le}
use native.Mathlib.Nat.{sub-zero}
use native.Mathlib.Omega.{arith}
use lib.ListN.{length, replicate, get_or}
use lib.Dec.{leb}
use lib.Seq.{sets-eq, take-append_seam}
use borrow.Rule.Slice.PartMut.{mid_of, put_mid}
use borrow.Author.Tests.{le-leb, lt-leb, lt-ltb, le-ltb}
use Rattle.laws.proofs.Bounds.{AllBelow}
use Rattle.text.specs.Limits.{Limits}
use Rattle.text.specs.Doc.{Doc, count_of}
use Rattle.text.specs.Writing.{written}
use Rattle.json_reader.proofs.Kept.{rest_cleared}
use Rattle.output.specs.Written.{full}
use Rattle.packing.specs.Unpacked.{doc_in, distinctly, within, unpacked}
use Rattle.packing.specs.Services.{restored, not_packed, short, unpack_doc, unpack_of, answer_of_restored, output_of_restored, Unpacks}
use Rattle.fields.specs.Survey.{surveyed}
use Rattle.vault.specs.Values.{WroteDoc}
use Rattle.vault.specs.Unpack.{used_by, RestoresIn}

-- what holds of each place of a slice holds of the list
pub all_below : (p : List ℕ) → ((i : ℕ) → get_or p i 0 < 256) → AllBelow 256 p
all_below [] h = tt
all_below (x ∷ xs) h = (h 0, all_below xs (λ i. h (suc i)))

-- ---- a document that breaks a limit

module _ (L : Limits) (d : Doc) where
  -- tests that decide nothing
  nothing : (a b : Bool) → ◌≡◌ {A = Maybe Doc} (cond a (cond b none none) none) none
  nothing true true = refl
  nothing true false = refl
  nothing false b = refl

  twice : distinctly d ≡ false → within L (some d) ≡ none
  unfolding within
  twice e = rw e (nothing (leb (count_of d) L.values) (leb (length (written d)) L.bytes))

  many : L.values < count_of d → within L (some d) ≡ none
  unfolding within
  many h = rw (lt-leb (count_of d) L.values h)

  long : L.bytes < length (written d) → within L (some d) ≡ none
  unfolding within
  long h = rw (lt-leb (length (written d)) L.bytes h) (nothing (leb (count_of d) L.values) true)

module _ (L : Limits) (p old : List ℕ) where
  -- ---- refusals

  refused : {new : List ℕ} → unpack_of L (length old) p ≡ not_packed → RestoresIn L p old new (Err NotPacked)
  unfolding answer_of_restored output_of_restored
  refused e = record { answered = rw e; inside = omega arith; bytes = rw (e, sub-zero) }

  pub restores_none : {new : List ℕ} → doc_in L.depth p ≡ none → RestoresIn L p old new (Err NotPacked)
  unfolding unpack_of unpack_doc unpacked within
  restores_none e = refused (rw e)

  module _ {new : List ℕ} {to : ℕ} (w : WroteDoc (doc_in L.depth p) old 0 new to) where
    -- what the limits leave of the document
    kept : unpack_of L (length old) p ≡ unpack_doc (length old) (within L (some w.doc))
    unfolding unpack_of unpacked
    kept = ap (λ (o : Maybe Doc). unpack_doc (length old) (within L o)) w.is

    pub restores_twice : distinctly w.doc ≡ false → RestoresIn L p old new (Err NotPacked)
    unfolding unpack_doc
    restores_twice e = refused (kept ∙ ap (unpack_doc (length old)) (twice L w.doc e))

    pub restores_many : L.values < count_of w.doc → RestoresIn L p old new (Err NotPacked)
    unfolding unpack_doc
    restores_many h = refused (kept ∙ ap (unpack_doc (length old)) (many L w.doc h))

    pub restores_long : L.bytes < full → L.bytes < to → RestoresIn L p old new (Err NotPacked)
    unfolding unpack_doc
    restores_long small h = refused (kept ∙ ap (unpack_doc (length old)) (long L w.doc more))
      where
        more : L.bytes < length (written w.doc)
        more = let c = w.wrote.to in elim (dec_le (length (written w.doc)) L.bytes) [
          | yes le ↦ absurd (omega (arith, c.exact (omega arith)))
          | no gt ↦ omega arith
        ]

    -- ---- the limits hold

    module _ (good : distinctly w.doc ≡ true) (few : count_of w.doc ≤ L.values) (small : L.bytes < full) (fits : to ≤ L.bytes) where
      -- the place behind the text is its length
      exact : to ≡ length (written w.doc)
      exact = let c = w.wrote.to in elim (dec_le full (length (written w.doc))) [
        | yes le ↦ absurd (omega (arith, c.past (omega arith)))
        | no gt ↦ omega (arith, c.exact (omega arith))
      ]

      all : unpack_of L (length old) p ≡ unpack_doc (length old) (some w.doc)
      unfolding within
      all = kept ∙ ap (unpack_doc (length old)) (rw (le-leb (count_of w.doc) L.values few, le-leb (length (written w.doc)) L.bytes (omega (arith, exact)), good))

      pub restores_short : length old < to → RestoresIn L p old new (Err (TooShort to))
      unfolding unpack_doc answer_of_restored output_of_restored
      restores_short h =
          let e : unpack_of L (length old) p ≡ short (length (written w.doc)) = all ∙ rw (lt-ltb (length old) (length (written w.doc)) (omega (arith, exact))) in
          record { answered = rw (e, exact); inside = omega arith; bytes = rw (e, sub-zero) }

      pub restores_whole : to ≤ length old → RestoresIn L p old new (Ok (count_of w.doc, to))
      unfolding unpack_doc answer_of_restored output_of_restored
      restores_whole h =
          let e : unpack_of L (length old) p ≡ restored (count_of w.doc) (written w.doc) = all ∙ rw (le-ltb (length old) (length (written w.doc)) (omega (arith, exact))) in
          record {
            answered = rw (e, exact);
            inside = h;
            bytes = rw (e, exact, w.wrote.out, sets-eq (written w.doc) old 0 (omega (arith, exact)), append_assoc, take-append_seam);
          }

-- what a survey finds of a document
pub survey_unfit : (d : Doc) → surveyed d ≡ None → distinctly d ≡ false
unfolding surveyed
survey_unfit d e = go (distinctly d) e
  where
    go : (b : Bool) → cond b (Some (count_of d)) None ≡ None → b ≡ false
    go true q = let z : ◌≡◌ {A = ℕ} 0 1 = cc in absurd (omega arith)
    go false q = refl

pub survey_values : (d : Doc) (n : ℕ) → surveyed d ≡ Some n → (distinctly d ≡ true) × (n ≡ count_of d)
unfolding surveyed
survey_values d n e = go (distinctly d) e
  where
    go : (b : Bool) → cond b (Some (count_of d)) None ≡ Some n → (b ≡ true) × (n ≡ count_of d)
    go true q = let z : n ≡ count_of d = cc in (refl, z)
    go false q = let z : ◌≡◌ {A = ℕ} 0 1 = cc in absurd (omega arith)

-- ---- clearing

-- theorem: behind the bytes that are used the output is cleared, so it is unpacking's
pub unpacks : {L : Limits} {p old new : List ℕ} {answer : (Result (ℕ × ℕ) UnpackRefusal)} → RestoresIn L p old new answer → length new ≡ length old → {used : ℕ} → used ≡ used_by answer
    → {rest : List ℕ} → rest ≡ replicate (length (mid_of used (length new - used) new)) 0
    → Unpacks L (length old) p answer (put_mid used (length new - used) new rest)
unpacks {new = new} {answer = answer} r e {used} u z =
    record {
      answered = r.answered;
      bytes = rest_cleared new used (omega (arith, r.inside)) z ∙ rw (u, e) r.bytes;
    }
