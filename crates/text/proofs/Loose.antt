-- A text that says a document whose names are distinct is read the same where names aren't compared: `told_loose`. Assumes nothing.
use mathlib.Core.Path.{◌≡◌, refl, sym, ap, ◌∙◌}
use mathlib.Core.Bool.{true≢false}
use mathlib.Core.List.{List}
use Prim.Native.Nat.{ℕ, ◌≤◌}
use native.Mathlib.Omega.{arith}
use lib.ListN.{length}
use Rattle.text.specs.Limits.{Limits, loose}
use Rattle.text.specs.Tree.{Forest}
use Rattle.text.specs.Reader.{Read, bad}
use Rattle.text.specs.Sheet.{numbers, refused}
use Rattle.text.specs.Whole.{read_of, Refuses}
use Rattle.text.specs.Grammar.{JsonText, root_of}
use Rattle.text.specs.Seats.{Head, Seat}
use Rattle.text.specs.Doc.{Doc}
use Rattle.text.specs.Distinct.{Distinct}
use Rattle.text.specs.Telling.{Tells}
use Rattle.text.specs.Fault.{ValueBreaks, TreeBreaks, FirstBreak}
use Rattle.text.specs.Writable.{Exceeds, AnswerOn}
use Rattle.text.specs.declared.Refusal.{Refusal}
use Rattle.text.specs.declared.Refusal.TheVariants.{Deep, Many}
use Rattle.text.proofs.Fewer.{long_text}
use Rattle.text.proofs.Readable.{one_refusal}
use Rattle.text.proofs.Grammar.First.{tree_refuses}
use Rattle.text.proofs.Answers.{told_answers, keeps_read}

-- ---- rules that are broken but for names

module _ (L : Limits) (t : List ℕ) where
  -- without the comparison no rule is broken that isn't with it, and but for 4 none fewer
  also_strict : {c : Seat} {h : Head} {n p : ℕ} → ValueBreaks (loose L) t c h n p → ValueBreaks L t c h n p
  also_strict (ValueBreaks.character s q l w i) = ValueBreaks.character s q l w i
  also_strict (ValueBreaks.repeated u s q w k) = absurd (true≢false (sym u))
  also_strict (ValueBreaks.deep o e) = ValueBreaks.deep o e
  also_strict (ValueBreaks.many e) = ValueBreaks.many e

  also_loose : {c : Seat} {h : Head} {n p : ℕ} → (n ≡ 4 → ⊥) → ValueBreaks L t c h n p → ValueBreaks (loose L) t c h n p
  also_loose g (ValueBreaks.character s q l w i) = ValueBreaks.character s q l w i
  also_loose g (ValueBreaks.repeated u s q w k) = absurd (g refl)
  also_loose g (ValueBreaks.deep o e) = ValueBreaks.deep o e
  also_loose g (ValueBreaks.many e) = ValueBreaks.many e

  module _ (f : Forest) where
    tree_strict : {n p : ℕ} → TreeBreaks (loose L) t f n p → TreeBreaks L t f n p
    tree_strict b = record { seat = b.seat; head = b.head; there = b.there; breaks = also_strict b.breaks }

    first_loose : {n p : ℕ} → (n ≡ 4 → ⊥) → FirstBreak L t f n p → FirstBreak (loose L) t f n p
    first_loose g b =
        let x = b.fault in
        record {
          fault = record { seat = x.seat; head = x.head; there = x.there; breaks = also_loose g x.breaks };
          no_earlier = λ m q y. b.no_earlier m q (tree_strict y);
          no_smaller = λ m y. b.no_smaller m (tree_strict y);
        }

-- ---- and so the answer

module _ (L : Limits) (t : List ℕ) (j : JsonText t) where
  -- any refusal but 4 is that of the loose reading too
  refused_loose : (n p : ℕ) (r : Refusal) → (n ≡ 4 → ⊥) → length t ≤ L.bytes → refused r ≡ numbers n p 0 → read_of L t ≡ bad r → read_of (loose L) t ≡ bad r
  refused_loose n p r g short is e =
      let h : Refuses L t n p = record { refusal = r; answer = e; sheet = is } in
      let x = (tree_refuses (loose L) t short j n p).1 (first_loose L t (root_of j) g ((tree_refuses L t short j n p).0 h)) in
      x.answer ∙ ap bad (one_refusal x.refusal r (x.sheet ∙ sym is))

  pub told_loose : (d : Doc) → Tells t (root_of j) d → Distinct d → read_of (loose L) t ≡ read_of L t
  unfolding refused
  told_loose d s o = go (read_of L t) refl (told_answers L t j d s)
    where
      go : (R : Read) → read_of L t ≡ R → AnswerOn L t d (root_of j) R → read_of (loose L) t ≡ R
      go R e (AnswerOn.read k) =
          keeps_read (told_answers (loose L) t j d s) (record { short = k.short; shallow = k.shallow; few = k.few; distinct = λ u. o })
      go R e (AnswerOn.refused (Exceeds.long l)) = long_text (loose L) t l
      go R e (AnswerOn.refused (Exceeds.repeated l u n)) = absurd (n o)
      go R e (AnswerOn.refused (Exceeds.deep {p = p} l m)) = refused_loose 5 p (Deep p) (λ q. omega arith) l refl e
      go R e (AnswerOn.refused (Exceeds.many {p = p} l m)) = refused_loose 6 p (Many p) (λ q. omega arith) l refl e
