-- Laws of writing in steps, by the bytes that are left to write:
--     wrote_none                     no bytes are written by doing nothing
--     left-all, left-on, left_as     all are left; the next ones are written; the same under another name
--     left-none, left-last           none is left; the last ones are written
--     left-length                    the output stays as long as it was
--     wrote_then                     some bytes and then others
--     part-done, part-next           a part of a text, byte by byte
-- Assumes nothing.
use Prim.Native.Nat.{ℕ, ◌+◌, ◌≤◌, ◌<◌}
use mathlib.Core.Path.{◌≡◌, refl, sym, ap, ◌∙◌}
use mathlib.Core.List.{List, [], ◌∷◌, ◌++◌, append-nil}
use native.Mathlib.Decide.{dec_le}
use native.Mathlib.Nat.{add-zero, add_assoc}
use native.Mathlib.Omega.{arith}
use lib.ListN.{length, get_or, length-append}
use lib.Seq.{sets, length-sets}
use Rattle.laws.specs.Lists.{part_of}
use Rattle.laws.proofs.Places.{any_default}
use Rattle.laws.proofs.Parts.{part_none, part_back, part_more}
use Rattle.laws.proofs.Sets.{sets_append, sets_out}
use Rattle.output.specs.Written.{full, CountedPlace, Wrote}

-- ---- counting ----

pub counts_same : (n : ℕ) → CountedPlace n n
counts_same n = record { exact = λ h. refl; past = λ h. h }

-- from the n-th place to one further on
pub counts_on : {n s r : ℕ} (k : ℕ) → CountedPlace n s → CountedPlace (s + k) r → CountedPlace (n + k) r
counts_on {n} {s} {r} k a b =
    record {
      exact = λ h. let e : s ≡ n = a.exact (omega arith) in b.exact (omega arith) ∙ ap (λ (m : ℕ). m + k) e;
      past =
          λ h.
          elim (dec_le full n) [
            | yes le ↦ let g : full ≤ s = a.past le in b.past (omega arith)
            | no lt ↦ let e : s ≡ n = a.exact (omega arith) in b.past (omega arith)
          ];
    }

-- ---- bytes that are left ----

-- of the bytes `total` that go into `old` from `at` on, `todo` are left, which go into `new` from `to` on
pub record BytesLeft (old : List ℕ) (at : ℕ) (total new : List ℕ) (to : ℕ) (todo : List ℕ) : Type 0 where
  pub place : {r : ℕ} → CountedPlace (to + length todo) r → CountedPlace (at + length total) r
  pub bytes : sets old at total ≡ sets new to todo

-- past the end it does not matter where
anywhere : (new : List ℕ) (n r : ℕ) (todo : List ℕ) → length new < full → CountedPlace n r → sets new n todo ≡ sets new r todo
anywhere new n r todo fits c =
    elim (dec_le full n) [
      | yes le ↦ let g : full ≤ r = c.past le in sets_out todo new n (omega arith) ∙ sym (sets_out todo new r (omega arith))
      | no lt ↦ ap (λ (m : ℕ). sets new m todo) (sym (c.exact (omega arith)))
    ]

pub wrote_none : {old : List ℕ} (at : ℕ) → length old < full → Wrote old at [] old at
wrote_none at fits = record { to = rw add-zero (counts_same at); out = refl; fits = fits }

module _ {old : List ℕ} {at : ℕ} {total : List ℕ} where
  pub left_all : BytesLeft old at total old at total
  left_all = record { place = λ c. c; bytes = refl }

  pub left_on : {new : List ℕ} {to : ℕ} (bytes todo : List ℕ) {new' : List ℕ} {r : ℕ} → BytesLeft old at total new to (bytes ++ todo)
      → Wrote new to bytes new' r
      → BytesLeft old at total new' r todo
  left_on {new} {to} bytes todo {new'} {r} l w =
      record {
        place = λ c. l.place (rw (length-append, ← add_assoc) (counts_on (length todo) w.to c));
        bytes =
            l.bytes
            ∙ sets_append bytes todo new to
            ∙ anywhere (sets new to bytes) (to + length bytes) r todo (rw length-sets w.fits) w.to
            ∙ ap (λ (o : List ℕ). sets o r todo) (sym w.out);
      }

  left_none : {new : List ℕ} {to : ℕ} → length old < full → BytesLeft old at total new to [] → Wrote old at total new to
  left_none {new} {to} fits l = record { to = l.place (rw add-zero (counts_same to)); out = sym l.bytes; fits = fits }

  pub left_length : {new : List ℕ} {to : ℕ} {todo : List ℕ} → BytesLeft old at total new to todo → length new ≡ length old
  left_length {new} {to} {todo} l = sym (length-sets new to todo) ∙ sym (ap length l.bytes) ∙ length-sets old at total

  pub left_last : {new : List ℕ} {to : ℕ} (bytes : List ℕ) {new' : List ℕ} {r : ℕ} → BytesLeft old at total new to bytes → Wrote new to bytes new' r
      → Wrote old at total new' r
  left_last bytes l w = left_none (rw (← left_length l) w.fits) (left_on bytes [] (rw append-nil l) w)

  pub left_as : {new : List ℕ} {to : ℕ} {todo todo' : List ℕ} → todo ≡ todo' → BytesLeft old at total new to todo → BytesLeft old at total new to todo'
  left_as e l = rw e at l

pub wrote_then : {old : List ℕ} {at : ℕ} (xs ys : List ℕ) {mid : List ℕ} {p : ℕ} {new : List ℕ} {r : ℕ} → Wrote old at xs mid p → Wrote mid p ys new r
    → Wrote old at (xs ++ ys) new r
wrote_then xs ys a b = left_last ys (left_on xs ys left_all a) b

-- ---- a part of a text ----

module _ (t : List ℕ) (i e : ℕ) (inside : e ≤ length t) where
  pub part_done : e ≤ i → part_of t i e ≡ []
  part_done h =
      elim (dec_le i e) [
        | yes le ↦ let q : i ≡ e = omega arith in rw q (part_none t e inside)
        | no lt ↦ part_back t i e (omega arith)
      ]

  pub part_next_lem : i < e → part_of t i e ≡ get_or t i 0 ∷ part_of t (i + 1) e
  part_next_lem h = rw (any_default 0 256 t i (omega arith)) (part_more t i e h inside)
