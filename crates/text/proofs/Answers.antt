-- What reading answers of a text of the grammar that says a document, white space or not, for any limits: `told_answers` (`AnswerOn`,
-- specs/Writable.antt). It is read exactly if it is within them (`read_iff`); and if only the depth is too much, that is all that it is refused for
-- (`only_deep`). Assumes nothing.
use mathlib.Core.Path.{◌≡◌, refl, sym, ap, subst}
use mathlib.Core.Bool.{Bool, true, false, true≢false}
use mathlib.Core.List.{List}
use mathlib.Core.Logic.{◌↔◌}
use Prim.Native.Nat.{ℕ, ◌≤◌, ◌<◌}
use native.Mathlib.Nat.{le_refl}
use native.Mathlib.Omega.{arith}
use lib.ListN.{length}
use Rattle.text.specs.Limits.{Limits}
use Rattle.text.specs.Tree.{Forest}
use Rattle.text.specs.Reader.{Read, good, bad}
use Rattle.text.specs.Whole.{read_of}
use Rattle.text.specs.Grammar.{JsonText, root_of}
use Rattle.text.specs.Seats.{Head, Seat, top, Sits}
use Rattle.text.specs.Meaning.{Accepts}
use Rattle.text.specs.Doc.{Doc, count_of}
use Rattle.text.specs.Distinct.{Distinct}
use Rattle.text.specs.Telling.{Tells}
use Rattle.text.specs.Writable.{depth_in, FitsLimits, Exceeds, AnswerOn}
use Rattle.text.specs.declared.Refusal.{Refusal}
use Rattle.text.specs.declared.Refusal.TheVariants.{Deep}
use Rattle.text.proofs.Promise.{promised}
use Rattle.text.proofs.Telling.{told_doc, told_size, told_depth, told_accepted}
use Rattle.text.proofs.Grammar.Stands.{by_order}
use Rattle.text.proofs.Grammar.Trees.{in_deep, in_few}
use Rattle.text.proofs.Grammar.Wrong.{Wrong, string, name, again, deep, many}
use Rattle.text.proofs.Grammar.Meets.{Numbered, third, fourth, fifth, sixth}
use Rattle.text.proofs.Grammar.Accepted.{accepts, accepts_clean}
use Rattle.text.proofs.Grammar.Refused.{too_long}
use Rattle.text.proofs.Grammar.First.{Told, whole, wrong, told}

module _ (L : Limits) (t : List ℕ) (j : JsonText t) (d : Doc) (s : Tells t (root_of j) d) where
  -- limits that are wide enough
  abbrev wide : Bool → Limits
  wide u = record { bytes = length t; depth = depth_in d; values = count_of d; unique = u }

  wide_accepts : (u : Bool) → (u ≡ true → Distinct d) → Accepts (wide u) t (root_of j)
  wide_accepts u o = told_accepted (wide u) t j d s o (le_refl (length t)) (le_refl (depth_in d)) (le_refl (count_of d))

  kept : read_of L t ≡ good (root_of j) (length t) → FitsLimits L t d
  kept e =
      let a = (accepts L t (root_of j)).0 e in
      record {
        short = a.short;
        shallow = omega (arith, a.shallow, told_depth s);
        few = omega (arith, a.few, told_size s);
        distinct = λ u. subst Distinct (sym (told_doc t (root_of j) d s)) ((promised L t (root_of j) (length t) e).distinct u);
      }

  -- what is wrong with a value, the text being as it is
  exceeds : length t ≤ L.bytes → {c : Seat} {h : Head} {m x : ℕ} {r : Refusal} → Sits top (root_of j) c h → Wrong L t c h m x → Numbered m x r → Exceeds L t d r
  exceeds l i (string k z) third = absurd (accepts_clean (wide false) t (wide_accepts false (λ e. absurd (true≢false (sym e)))) i (string k z))
  exceeds l i (name n k z) third = absurd (accepts_clean (wide false) t (wide_accepts false (λ e. absurd (true≢false (sym e)))) i (name n k z))
  exceeds l i (again u k z n) fourth = Exceeds.repeated l u (λ o. accepts_clean (wide true) t (wide_accepts true (λ e. o)) i (again refl k z n))
  exceeds l i (deep o k) fifth = Exceeds.deep l (omega (arith, in_deep i o, told_depth s))
  exceeds l i (many k) sixth = Exceeds.many l (omega (arith, in_few i, told_size s))

  pub told_answers : AnswerOn L t d (root_of j) (read_of L t)
  told_answers = by_order L.bytes (length t) (λ l. rw ((too_long L t).1 l) (AnswerOn.refused (Exceeds.long l))) (λ l. go (read_of L t) refl l (told L t l j))
    where
      go : (R : Read) → read_of L t ≡ R → (l : length t ≤ L.bytes) → Told L t l j R → AnswerOn L t d (root_of j) R
      go R e l whole = AnswerOn.read (kept e)
      go R e l (wrong i w n f) = AnswerOn.refused (exceeds l i w n)

-- ---- what follows ----

module _ {L : Limits} {t : List ℕ} {d : Doc} where
  exceeds_not : {r : Refusal} → Exceeds L t d r → FitsLimits L t d → ⊥
  exceeds_not (Exceeds.long l) k = omega (arith, k.short)
  exceeds_not (Exceeds.repeated l u o) k = o (k.distinct u)
  exceeds_not (Exceeds.deep l m) k = omega (arith, k.shallow)
  exceeds_not (Exceeds.many l m) k = omega (arith, k.few)

  pub keeps_read : {f : Forest} {R : Read} → AnswerOn L t d f R → FitsLimits L t d → R ≡ good f (length t)
  keeps_read (AnswerOn.read k) h = refl
  keeps_read (AnswerOn.refused x) h = absurd (exceeds_not x h)

  pub read_iff : {f : Forest} {R : Read} → AnswerOn L t d f R → (R ≡ good f (length t)) ↔ FitsLimits L t d
  read_iff a = (go a, keeps_read a)
    where
      go : {f : Forest} {R : Read} → AnswerOn L t d f R → R ≡ good f (length t) → FitsLimits L t d
      go (AnswerOn.read k) e = k
      go (AnswerOn.refused x) e = let z : ◌≡◌ {A = ℕ} 0 1 = cc in absurd (omega arith)

  deep_alone : {r : Refusal} → Exceeds L t d r → length t ≤ L.bytes → count_of d ≤ L.values → Distinct d → (p : ℕ) × (r ≡ Deep p)
  deep_alone (Exceeds.long l) short few o = absurd (omega arith)
  deep_alone (Exceeds.repeated l u n) short few o = absurd (n o)
  deep_alone (Exceeds.deep {p = p} l m) short few o = (p, refl)
  deep_alone (Exceeds.many l m) short few o = absurd (omega arith)

  pub only_deep : {f : Forest} {R : Read} → AnswerOn L t d f R → length t ≤ L.bytes → count_of d ≤ L.values → Distinct d → L.depth < depth_in d
      → (p : ℕ) × (R ≡ bad (Deep p))
  only_deep (AnswerOn.read k) short few o l = absurd (omega (arith, k.shallow))
  only_deep (AnswerOn.refused x) short few o l = let (p, e) = deep_alone x short few o in (p, ap bad e)
