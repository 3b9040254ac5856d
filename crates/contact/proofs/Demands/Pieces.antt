-- The measure of reading in pieces beside what reading answers: `pieces_as_read`, and where that is 7, `pieces_rows`. Assumes nothing.
use mathlib.Core.Path.{◌≡◌, sym, ap, ◌∙◌}
use mathlib.Core.Bool.{Bool, true, false, cond}
use mathlib.Core.List.{List}
use Prim.Native.Nat.{ℕ, ◌*◌, ◌<◌}
use native.Mathlib.Decide.{dec_le}
use native.Mathlib.Omega.{arith}
use lib.ListN.{length}
use lib.Dec.{ltb}
use borrow.Author.Tests.{lt-ltb}
use Rattle.text.specs.Limits.{Limits, row_words}
use Rattle.text.specs.Tree.{Forest, size}
use Rattle.text.specs.Sheet.{numbers, refused, paper}
use Rattle.text.specs.Reader.{Read, good, bad}
use Rattle.text.specs.Whole.{read_of, fit_of, whole_of, sheet_of}
use Rattle.text.specs.declared.Paper.{Paper}
use Rattle.text.specs.declared.Refusal.{Refusal}
use Rattle.text.specs.declared.Refusal.TheVariants.{TooLong, Small}
use Rattle.text.proofs.Grammar.Accepted.{accepts}
use Rattle.wire.specs.Measure.{reading_of, measure}
use Rattle.wire.proofs.Loosens.{Reads, as_measured, by_four, measured}
use Rattle.contact.specs.Services.{served}
use Rattle.contact.proofs.Demands.Reading.{read_short}

-- the number of an answer
number_is : {a b : Paper} → a ≡ b → a.number ≡ b.number
number_is e = ap (λ (p : Paper). p.number) e

module _ (L : Limits) (t : List ℕ) where
  -- over the limit of bytes reading gives 1
  long_one : L.bytes < length t → read_of L t ≡ bad TooLong
  unfolding read_of
  long_one l = rw (lt-ltb L.bytes (length t) l)

  module _ (words : ℕ) where
    -- by what reading makes of the text, before it asks for rows
    by_read : (R : Read) (a : Paper) → reading_of R ≡ measure L t → sheet_of (fit_of words R) ≡ a → (a.number ≡ 7 → ⊥) → paper (measure L t) ≡ a
    unfolding reading_of sheet_of fit_of paper refused
    by_read (bad r) a m e n = ap paper (sym m) ∙ e
    by_read (good f to) a m e n = go (ltb words (row_words * size f)) e
      where
        go : (x : Bool) → sheet_of (cond x (bad (Small (size f))) (good f to)) ≡ a → paper (measure L t) ≡ a
        go true e = absurd (n (sym (number_is e)))
        go false e = ap paper (sym m) ∙ e

    pub pieces_as_read : (a : Paper) → sheet_of (whole_of L words t) ≡ a → (a.number ≡ 1 → ⊥) → (a.number ≡ 4 → ⊥) → (a.number ≡ 7 → ⊥) → paper (measure L t) ≡ a
    unfolding whole_of fit_of sheet_of refused measure
    pieces_as_read a e n1 n4 n7 = elim (dec_le (length t) L.bytes) [
      | no l ↦ absurd (n1 (sym (number_is (ap (λ (R : Read). sheet_of (fit_of words R)) (sym (long_one (omega arith))) ∙ e))))
      | yes l ↦ go (measured L t l)
    ]
      where
        go : Reads L t → paper (measure L t) ≡ a
        go (as_measured q) = by_read (read_of L t) a (ap reading_of q) e n7
        go (by_four p q) = absurd (n4 (sym (number_is (ap (λ (R : Read). sheet_of (fit_of words R)) (sym q) ∙ e))))

    -- where there are too few rows, the text is accepted
    pub pieces_rows : (n : ℕ) → sheet_of (whole_of L words t) ≡ numbers 7 n 0 → paper (measure L t) ≡ numbers 0 n 0
    unfolding served measure reading_of paper
    pieces_rows n e =
        let s = (read_short L words t n).0 e in
        let r = (accepts L t s.tree).1 s.accepts in
        elim (dec_le (length t) L.bytes) [
          | no l ↦ absurd (no_good (sym r ∙ long_one (omega arith)))
          | yes l ↦ go s.tree r s.needed (measured L t l)
        ]
      where
        no_good : {f : Forest} {to : ℕ} {q : Refusal} → good f to ≡ bad q → ⊥
        no_good e = let z : ◌≡◌ {A = ℕ} 0 1 = cc in omega arith

        go : (f : Forest) → read_of L t ≡ good f (length t) → n ≡ size f → Reads L t → paper (measure L t) ≡ numbers 0 n 0
        go f r k (as_measured q) = rw (← q, r, k)
        go f r k (by_four p q) = absurd (no_good (sym r ∙ q))
