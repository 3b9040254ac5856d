-- Two answers, tables and outputs that localizing's contract allows are equal: `one_outcome`. What is written fits the output: `output_fits`.
-- Assumes nothing.
use Rattle.std.specs.Prelude.{Result}
use Rattle.contact.specs.declared.LocalRefusal.{LocalRefusal}
use mathlib.Core.Path.{◌≡◌, sym, ap, ◌∙◌}
use mathlib.Core.List.{List}
use Prim.Native.Nat.{ℕ, ◌≤◌, ◌<◌}
use native.Mathlib.Decide.{dec_le}
use native.Mathlib.Omega.{arith}
use lib.ListN.{length}
use Rattle.text.specs.Limits.{Limits}
use Rattle.text.specs.Tree.{Forest}
use Rattle.text.specs.Doc.{Name, Doc}
use Rattle.text.specs.Writing.{written}
use Rattle.contact.specs.Patch.{entries_of, applied}
use Rattle.contact.specs.Localize.{paper_of_localized, Outcome, done, localized_doc, answer_of_outcome, sheet_of_outcome, start}
use Rattle.contact.specs.Contract.{Localizes}
use Rattle.contact.specs.Conditions.{short}
use Rattle.contact.specs.declared.LocalRefusal.TheVariants.{Short}
use Rattle.contact.proofs.Patching.Refused.{accepted_iff}

-- it is enough to promise the answer: the numbers follow
pub paper_follows : (o : Outcome) (r : Result (ℕ × ℕ) LocalRefusal) → r ≡ answer_of_outcome o → paper_of_localized r ≡ sheet_of_outcome o
unfolding sheet_of_outcome
paper_follows o r e = ap paper_of_localized e

pub one_outcome : {L : Limits} {words room : ℕ} {t : List ℕ} {lang : Name} {r q : (Result (ℕ × ℕ) LocalRefusal)} {table other output out : List ℕ}
    → Localizes L words room t lang r table output → Localizes L words room t lang q other out → (r ≡ q) × (table ≡ other) × (output ≡ out)
one_outcome a b = (a.answer ∙ sym b.answer, a.rows ∙ sym b.rows, a.bytes ∙ sym b.bytes)

-- what is written fits the output
pub output_fits : (L : Limits) (words room : ℕ) (place : Name → ℕ) (card : Doc) (lang : Name) (text : List ℕ) (f : Forest)
    → localized_doc L words room place card lang ≡ done text f → length text ≤ room
output_fits L words room place card lang text f e = elim (dec_le (length text) room) [
  | yes k ↦ k
  | no k ↦ let a = ((accepted_iff L words room place card lang text f).0 e).accepted in
      let y : List ℕ = written (applied (start card) (entries_of ((accepted_iff L words room place card lang text f).0 e).members)) in
      let h : room < length y = omega (arith, ap length a.writes) in
      absurd (a.unbroken 27 (Short (length y)) (short h))
]
