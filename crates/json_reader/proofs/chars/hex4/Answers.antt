-- `json_reader::chars::hex4` meets its contract: what `hex_at` answers for the digits, as far as they are read, picks the case of `hex4_of`. Assumes nothing.
use Rattle.std.specs.Prelude.{Result, Ok, Err}
use Prim.Native.Nat.{ℕ, ◌+◌}
use Rattle.std.proofs.lemmas.Result.{err_from_is_err_and}
use mathlib.Core.Bool.{Bool, true, false, cond, true≢false}
use mathlib.Core.Path.{◌≡◌, refl, sym, ap, ◌∙◌}
use lib.Dec.{eqb}
use Rattle.text.specs.Chars.{digit_at, hex4_of, hex4_at}
use Rattle.json_reader.proofs.chars.hex4.Goals as goal

holds : Result ℕ ℕ → Bool
holds (Ok x) = true
holds (Err x) = false

value : Result ℕ ℕ → ℕ
value (Ok x) = x
value (Err x) = x

module _ (i d : ℕ) {r : Result ℕ ℕ} (is : r ≡ cond (eqb d 16) (Err i) (Ok d)) where
  -- a digit that was read
  found : {a : ℕ} → r ≡ Ok a → (eqb d 16 ≡ false) × (d ≡ a)
  unfolding holds value
  found {a} e = go (eqb d 16) (sym is ∙ e)
    where
      go : (b : Bool) → cond b (Err i) (Ok d) ≡ Ok a → (b ≡ false) × (d ≡ a)
      go true e = absurd (true≢false (sym (ap holds e)))
      go false e = (refl, ap value e)

  -- and none
  lacks : {a : ℕ} → r ≡ Err a → (eqb d 16 ≡ true) × (i ≡ a)
  unfolding holds value
  lacks {a} e = go (eqb d 16) (sym is ∙ e)
    where
      go : (b : Bool) → cond b (Err i) (Ok d) ≡ Err a → (b ≡ true) × (i ≡ a)
      go true e = (refl, ap value e)
      go false e = absurd (true≢false (ap holds e))

pub returns-in_err-a : goal.returns-in_err-a
unfolding hex4_of hex4_at
returns-in_err-a c =
    let t = c.args.text.now in
    let i = c.args.at in
    let l = lacks i (digit_at t i) c.hex_at.ensures c.in_err-a.was in
    let e = err_from_is_err_and c.from_residual.result c.from_residual.ensures.1 in
    e.1 ∙ ap Err (e.2 ∙ sym l.1) ∙ sym (rw l.0 refl)

pub returns-in_err-b : goal.returns-in_err-b
unfolding hex4_of hex4_at
returns-in_err-b c =
    let t = c.args.text.now in
    let i = c.args.at in
    let p = found i (digit_at t i) c.hex_at.ensures c.in_ok-a.was in
    let l = lacks (i + 1) (digit_at t (i + 1)) c.hex_at-2.ensures c.in_err-b.was in
    let e = err_from_is_err_and c.from_residual-in_err-b.result c.from_residual-in_err-b.ensures.1 in
    e.1 ∙ ap Err (e.2 ∙ sym l.1) ∙ sym (rw (p.0, l.0) refl)

pub returns-in_err-c : goal.returns-in_err-c
unfolding hex4_of hex4_at
returns-in_err-c c =
    let t = c.args.text.now in
    let i = c.args.at in
    let p = found i (digit_at t i) c.hex_at.ensures c.in_ok-a.was in
    let q = found (i + 1) (digit_at t (i + 1)) c.hex_at-2.ensures c.in_ok-b.was in
    let l = lacks (i + 2) (digit_at t (i + 2)) c.hex_at-3.ensures c.in_err-c.was in
    let e = err_from_is_err_and c.from_residual-in_err-c.result c.from_residual-in_err-c.ensures.1 in
    e.1 ∙ ap Err (e.2 ∙ sym l.1) ∙ sym (rw (p.0, q.0, l.0) refl)

pub returns-in_err-d : goal.returns-in_err-d
unfolding hex4_of hex4_at
returns-in_err-d c =
    let t = c.args.text.now in
    let i = c.args.at in
    let p = found i (digit_at t i) c.hex_at.ensures c.in_ok-a.was in
    let q = found (i + 1) (digit_at t (i + 1)) c.hex_at-2.ensures c.in_ok-b.was in
    let r = found (i + 2) (digit_at t (i + 2)) c.hex_at-3.ensures c.in_ok-c.was in
    let l = lacks (i + 3) (digit_at t (i + 3)) c.hex_at-4.ensures c.in_err-d.was in
    let e = err_from_is_err_and c.from_residual-in_err-d.result c.from_residual-in_err-d.ensures.1 in
    e.1 ∙ ap Err (e.2 ∙ sym l.1) ∙ sym (rw (p.0, q.0, r.0, l.0) refl)

pub returns : goal.returns
unfolding hex4_of hex4_at
returns c =
    let t = c.args.text.now in
    let i = c.args.at in
    let p = found i (digit_at t i) c.hex_at.ensures c.in_ok-a.was in
    let q = found (i + 1) (digit_at t (i + 1)) c.hex_at-2.ensures c.in_ok-b.was in
    let r = found (i + 2) (digit_at t (i + 2)) c.hex_at-3.ensures c.in_ok-c.was in
    let s = found (i + 3) (digit_at t (i + 3)) c.hex_at-4.ensures c.in_ok-d.was in
    rw (p.0, q.0, r.0, s.0, p.1, q.1, r.1, s.1) refl
