-- `json_reader::tokens::number` meets its contract: each part where the one before it ends. Assumes nothing.
use Rattle.std.specs.Prelude.{Result, Ok, Err}
use Rattle.text.specs.declared.Fault.{Fault}
use Rattle.text.specs.declared.Fault.TheVariants.{Malformed, Forbidden}
use mathlib.Core.Path.{◌≡◌, refl, sym, ◌∙◌}
use Rattle.std.proofs.lemmas.Result.{err_from_is_err_and}
use mathlib.Core.List.{List}
use mathlib.Core.Bool.{Bool, true, false, cond, true≢false}
use Prim.Native.Nat.{ℕ}
use lib.Dec.{eqb}
use Rattle.text.specs.Text.{byte_at}
use Rattle.text.specs.Tokens.{then_at, frac_at, exp_at, number_at}
use Rattle.json_reader.specs.Readers.{more_by}
use Rattle.json_reader.proofs.tokens.number.Goals as goal

-- where neither a fraction nor an exponent begins, both end at once
none_of : (p q r : Bool) → cond p true (cond q true r) ≡ false → (p ≡ false) × ((q ≡ false) × (r ≡ false))
none_of true q r e = absurd (true≢false e)
none_of false true r e = absurd (true≢false e)
none_of false false r e = (refl, (refl, e))

no_more : (t : List ℕ) (i : ℕ) → more_by (byte_at t i) ≡ false → then_at (exp_at t) (frac_at t i) ≡ Ok i
unfolding frac_at exp_at
no_more t i e = let b = byte_at t i in let h = none_of (eqb b 46) (eqb b 101) (eqb b 69) e in rw (h.0, h.1.0, h.1.1)

-- what has not ended is the answer, whatever should follow
stopped : (e : Fault ℕ) (f : ℕ → Result ℕ (Fault ℕ)) → then_at f (Err e) ≡ Err e
stopped (Malformed p) f = refl
stopped (Forbidden p) f = refl

pub returns-in_err-point : goal.returns-in_err-point
unfolding number_at
returns-in_err-point c =
    let p = err_from_is_err_and c.from_residual.result c.from_residual.ensures.1 in
    let e = c.in_err-point.field-0.0 in
    rw (
      p.1,
      p.2,
      ← c.minus_end.ensures,
      ← c.int.ensures,
      c.in_err-point.was,
      stopped e (frac_at c.args.text.now),
      stopped e (exp_at c.args.text.now),
    )

pub returns-then-not-more_at : goal.returns-then-not-more_at
unfolding number_at
returns-then-not-more_at c =
    rw (← c.minus_end.ensures, ← c.int.ensures, c.in_ok-point.was)
    (sym (no_more c.args.text.now c.in_ok-point.point (sym c.more_at.ensures ∙ c.if-not-more_at.true)))

pub returns-in_err-e : goal.returns-in_err-e
unfolding number_at
returns-in_err-e c =
    let p = err_from_is_err_and c.from_residual-in_err-e.result c.from_residual-in_err-e.ensures.1 in
    rw (
      p.1,
      p.2,
      ← c.minus_end.ensures,
      ← c.int.ensures,
      c.in_ok-point.was,
      ← c.frac.ensures,
      c.in_err-e.was,
      stopped c.in_err-e.field-0.0 (exp_at c.args.text.now),
    )

pub returns : goal.returns
unfolding number_at
returns c = rw (← c.minus_end.ensures, ← c.int.ensures, c.in_ok-point.was, ← c.frac.ensures, c.in_ok-e.was) c.exp.ensures
