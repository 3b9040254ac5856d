-- `vault::unpack::restore` meets its contract: each way out is a law of unpacking. Assumes nothing.
use Rattle.std.specs.Prelude.{Option, Some, None, Result, Err}
use Rattle.std.specs.Option.{ok_or}
use Rattle.packing.specs.declared.UnpackRefusal.{UnpackRefusal}
use Rattle.packing.specs.declared.UnpackRefusal.TheVariants.{NotPacked}
use mathlib.Core.Path.{◌≡◌, sym, ap, ◌∙◌}
use mathlib.Core.List.{List}
use mathlib.Core.Bool.{true}
use Prim.Native.Nat.{ℕ, ◌<◌}
use native.Mathlib.Omega.{arith}
use lib.ListN.{get_or}
use Rattle.text.specs.Limits.{base}
use Rattle.text.specs.Doc.{count_of}
use Rattle.packing.specs.Unpacked.{doc_in, distinctly}
use Rattle.fields.specs.Survey.{survey_of, surveyed}
use Rattle.fields.proofs.Surveyed.{survey_said}
use Rattle.vault.specs.Values.{WroteDoc}
use Rattle.vault.proofs.Restoring.{all_below, survey_unfit, survey_values}
use Rattle.vault.proofs.Restoring.{restores_none, restores_twice, restores_many, restores_long, restores_short, restores_whole}
use Rattle.std.proofs.lemmas.Result.{err_from_is_err_and}
use Rattle.vault.proofs.unpack.restore.Goals as goal

module _ (p : List ℕ) {old new : List ℕ} {to : ℕ} (w : WroteDoc (doc_in base.depth p) old 0 new to) (bytes : (i : ℕ) → get_or p i 0 < 256) where
  -- what the survey found is what the document has
  said : {r : (Option ℕ)} → r ≡ survey_of p → surveyed w.doc ≡ r
  said e = sym (survey_said 64 p (all_below p bytes) w.doc w.is) ∙ sym e

  -- names are distinct, and so many values were counted
  counted : {r : (Option ℕ)} → r ≡ survey_of p → (n : ℕ) → r ≡ Some n → (distinctly w.doc ≡ true) × (n ≡ count_of w.doc)
  counted e n is = survey_values w.doc n (said e ∙ is)

-- the refusal of a step that found nothing
no_other : {e : UnpackRefusal} {o : Option ℕ} → ◌≡◌ {A = Result ℕ UnpackRefusal} (Err e) (ok_or o NotPacked) → o ≡ None → e ≡ NotPacked
no_other {e} {o} v n =
    let z : ◌≡◌ {A = Result ℕ UnpackRefusal} (Err e) (Err NotPacked) = v ∙ ap (λ (o : Option ℕ). ok_or o NotPacked) n in cc

pub returns-in_err-to : goal.returns-in_err-to
returns-in_err-to c =
    let a = c.args in
    let e = c.in_err-to.ensures in
    let p = err_from_is_err_and c.from_residual.result c.from_residual.ensures.1 in
    rw (p.1, p.2, no_other e.value e.ok_part) (restores_none base a.packed.now a.out.now (rw e.ok_part at c.put_root.ensures))

pub returns-in_err-n : goal.returns-in_err-n
returns-in_err-n c =
    let a = c.args in
    let e = c.in_err-n.ensures in
    let w = rw c.in_ok-to.ensures.ok_part at c.put_root.ensures in
    let p = err_from_is_err_and c.from_residual-in_err-n.result c.from_residual-in_err-n.ensures.1 in
    rw (p.1, p.2, no_other e.value e.ok_part)
    (restores_twice base a.packed.now a.out.now w
    (survey_unfit w.doc (said a.packed.now w (λ i. omega (arith, c.type_inv.packed i)) c.survey.ensures ∙ e.ok_part)))

pub returns-then-n-gt-VALUES : goal.returns-then-n-gt-VALUES
returns-then-n-gt-VALUES c =
    let a = c.args in
    let w = rw c.in_ok-to.ensures.ok_part at c.put_root.ensures in
    let n = counted a.packed.now w (λ i. omega (arith, c.type_inv.packed i)) c.survey.ensures c.in_ok-n.n c.in_ok-n.ensures.ok_part in
    restores_many base a.packed.now a.out.now w (omega (arith, n.1, c.if-n-gt-VALUES.true))

pub returns-then-to-gt-BYTES : goal.returns-then-to-gt-BYTES
returns-then-to-gt-BYTES c =
    let a = c.args in
    let w = rw c.in_ok-to.ensures.ok_part at c.put_root.ensures in
    restores_long base a.packed.now a.out.now w (omega arith) c.if-to-gt-BYTES.true

pub returns-then-out-to : goal.returns-then-out-to
returns-then-out-to c =
    let a = c.args in
    let w = rw c.in_ok-to.ensures.ok_part at c.put_root.ensures in
    let n = counted a.packed.now w (λ i. omega (arith, c.type_inv.packed i)) c.survey.ensures c.in_ok-n.n c.in_ok-n.ensures.ok_part in
    restores_short base a.packed.now a.out.now w n.0 (omega (arith, n.1, c.if-n-gt-VALUES.false)) (omega arith) c.if-to-gt-BYTES.false
    (omega (arith, c.if-out-to.true, c.put_root.auto.out))

pub returns : goal.returns
returns c =
    let a = c.args in
    let w = rw c.in_ok-to.ensures.ok_part at c.put_root.ensures in
    let n = counted a.packed.now w (λ i. omega (arith, c.type_inv.packed i)) c.survey.ensures c.in_ok-n.n c.in_ok-n.ensures.ok_part in
    rw n.1
    (restores_whole base a.packed.now a.out.now w n.0 (omega (arith, n.1, c.if-n-gt-VALUES.false)) (omega arith) c.if-to-gt-BYTES.false
    (omega (arith, c.if-out-to.false, c.put_root.auto.out)))
