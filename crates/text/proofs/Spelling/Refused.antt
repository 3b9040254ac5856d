-- The step is right about what is no character:
--     cut_step, step_cut     it is 2 at p exactly if a character begins there that the byte at p can't continue
--     ill-step, step-ill     it is 3, at the place itself, exactly if bytes stand there that aim at a character and begin with none
-- Assumes nothing.
use Rattle.std.specs.Prelude.{Option, Some, None, Result, Ok, Err}
use Rattle.text.specs.declared.Fault.{Fault}
use Rattle.text.specs.declared.Fault.TheVariants.{Malformed, Forbidden}
use mathlib.Core.Path.{◌≡◌, refl, sym, ap, subst, ◌∙◌}
use mathlib.Core.List.{List, [], ◌∷◌, ◌++◌}
use Prim.Native.Nat.{ℕ, ◌+◌, ◌<◌}
use native.Mathlib.Nat.{add-zero}
use native.Mathlib.Decide.{dec_lt, ℕ_discrete}
use native.Mathlib.Omega.{arith}
use lib.ListN.{length, drop}
use borrow.Author.Tests.{lt-ltb, le-ltb, ne_eqb}
use Rattle.laws.proofs.Branches.{if_less, if_equal}
use Rattle.laws.proofs.Splits.{there, first_there, beyond}
use Rattle.text.specs.Text.{byte_at}
use Rattle.text.specs.Chars.{checked_at, raw_at, letter_of, hex4_at, low_at, pair_at, unit_at, on_hex, escape_at, step_by, step_at}
use Rattle.text.specs.Spelling.{HexDigit, Short}
use Rattle.text.specs.Broken.{HexDigits, Cut, control, ended, letter, digit, Aims, high, escape, Ill}
use Rattle.text.proofs.Spelling.Codes.{by_checked}
use Rattle.text.proofs.Spelling.Digits.{letter_short, four_value, four_length, four_digits, each_digit, HexAt, hex_at}
use Rattle.text.proofs.Spelling.Taken.{backslash_step, high_step, spelled_step}
use Rattle.text.proofs.Spelling.Steps.{CutAt, StandsAt, stands_at}

-- ---- a character that a byte can't continue ----

-- digits that reach just as far as the text has them
module _ (t : List ℕ) (j : ℕ) (w r : List ℕ) (are : HexDigits w) (split : drop j t ≡ w ++ r) where
  digit_there : (k : ℕ) → k < length w → ((v : ℕ) → HexDigit (byte_at t (j + k)) v → ⊥) → ⊥
  digit_there k h lacks =
      let d = each_digit are k h in
      let e : byte_at t (j + k) ≡ _ = there t j w r split k 256 h in
      lacks d.0 (rw e d.1)

few_value : (t : List ℕ) (j : ℕ) {w : List ℕ} → HexDigits w → length w < 4 → (r : List ℕ) → drop j t ≡ w ++ r
    → ((v : ℕ) → HexDigit (byte_at t (j + length w)) v → ⊥) → hex4_at t j ≡ Err (j + length w)
few_value t j {w} are few r split lacks = go (hex4_at t j) refl (hex_at t j)
  where
    go : (h : Result ℕ ℕ) → hex4_at t j ≡ h → HexAt t j h → hex4_at t j ≡ Err (j + length w)
    go (Ok u) e f = let l = four_length f.value in absurd (digit_there t j f.digits f.rest (four_digits f.value) f.split (length w) (omega arith) lacks)
    go (Err p) e f =
        let placed = f.place in
        let lacks1 : (v : ℕ) → HexDigit (byte_at t (j + length f.digits)) v → ⊥ = rw placed at f.lacks in
        elim (dec_lt (length f.digits) (length w)) [
          | yes h ↦ absurd (digit_there t j w r are split (length f.digits) h lacks1)
          | no h ↦ elim (dec_lt (length w) (length f.digits)) [
            | yes k ↦ absurd (digit_there t j f.digits f.rest f.are f.split (length w) k lacks)
            | no k ↦ e ∙ ap Err (omega arith)
          ]
        ]

module _ (t : List ℕ) (i : ℕ) where
  cut_digit : {w : List ℕ} → HexDigits w → length w < 4 → (r : List ℕ) → drop i t ≡ 92 ∷ 117 ∷ w ++ r
      → ((v : ℕ) → HexDigit (byte_at t (i + length (92 ∷ 117 ∷ w))) v → ⊥) → escape_at t i ≡ Err (Malformed (i + length (92 ∷ 117 ∷ w)))
  unfolding escape_at on_hex
  cut_digit {w} are few r split lacks =
      let p : byte_at t (i + 1) ≡ 117 = there t i (92 ∷ 117 ∷ []) (w ++ r) split 1 256 (omega arith) in
      let place : i + length (92 ∷ 117 ∷ w) ≡ i + 2 + length w = omega arith in
      let q : hex4_at t (i + 2) ≡ Err (i + 2 + length w) = few_value t (i + 2) are few r (beyond t i (92 ∷ 117 ∷ []) (w ++ r) split) (rw place at lacks) in
      simp (p, q, place)

  cut_letter : (b : ℕ) → byte_at t (i + 1) ≡ b → (b ≡ 117 → ⊥) → ((c : ℕ) → Short b c → ⊥) → escape_at t i ≡ Err (Malformed (i + 1))
  unfolding escape_at
  cut_letter b p n s = elim (ℕ_discrete (letter_of b) 0) [
    | yes z ↦ simp (p, ne_eqb b 117 n, z)
    | no z ↦ absurd (s (letter_of b) (letter_short b z))
  ]

  cut_here : {w : List ℕ} {b : ℕ} → Cut w b → (r : List ℕ) → drop i t ≡ w ++ r → byte_at t (i + length w) ≡ b → step_at t i ≡ Err (Malformed (i + length w))
  unfolding step_by
  cut_here (control {b} h) r split p = let q : byte_at t i ≡ b = rw add-zero at p in simp (q, ne_eqb b 34 (omega arith), ne_eqb b 92 (omega arith), lt-ltb b 32 h, add-zero)
  cut_here (ended {b} h) r split p =
      let q : byte_at t i ≡ b = rw add-zero at p in
      simp (q, ne_eqb b 34 (omega arith), ne_eqb b 92 (omega arith), le-ltb b 32 (omega arith), le-ltb b 128 (omega arith), le-ltb b 256 h, add-zero)
  cut_here (letter {b} n s) r split p = backslash_step t i r split ∙ cut_letter b p n s
  cut_here (digit {w} are few lacks) r split p = backslash_step t i (117 ∷ w ++ r) split ∙ cut_digit are few r split (rw p lacks)

  pub cut_step : (p : ℕ) → CutAt t i p → step_at t i ≡ Err (Malformed p)
  cut_step p c = let e = c.place in cut_here c.cut c.rest c.split (rw e) ∙ ap (λ n. Err (Malformed n)) (sym e)

  pub step_cut : (p : ℕ) → step_at t i ≡ Err (Malformed p) → CutAt t i p
  step_cut p e = subst (StandsAt t i) e (stands_at t i)

-- ---- bytes that aim at a character ----

-- what stands there is a character, or 3 at the place itself
abbrev Aimed : ℕ → Result (Option (ℕ × ℕ)) (Fault ℕ) → Type 0
Aimed i (Ok None) = ⊥
Aimed i (Ok (Some (c, n))) = Prim.Unit {0}
Aimed i (Err (Malformed p)) = ⊥
Aimed i (Err (Forbidden p)) = p ≡ i

module _ (t : List ℕ) (i : ℕ) where
  checked_aimed : (c n : ℕ) → Aimed i (checked_at i c n)
  checked_aimed c n = by_checked (Aimed i) i c n (λ g. tt) (λ n. refl)

  raw_aimed : (b : ℕ) → Aimed i (raw_at t i b)
  unfolding raw_at
  raw_aimed b =
      if_less (Aimed i) b 192 (λ h. refl)
      (λ h. if_less (Aimed i) b 224 (λ k. checked_aimed _ 2)
      (λ k. if_less (Aimed i) b 240 (λ l. checked_aimed _ 3) (λ l. if_less (Aimed i) b 248 (λ m. checked_aimed _ 4) (λ m. refl))))

  low_aimed : (u : ℕ) (h : Result ℕ ℕ) → Aimed i (low_at i u h)
  unfolding low_at
  low_aimed u (Err p) = refl
  low_aimed u (Ok low) = if_less (Aimed i) low 0xDC00 (λ h. refl) (λ h. if_less (Aimed i) low 0xE000 (λ k. checked_aimed _ 12) (λ k. refl))

  unit_aimed : (u : ℕ) → Aimed i (unit_at t i u)
  unfolding unit_at pair_at
  unit_aimed u =
      if_less (Aimed i) u 0xD800 (λ h. checked_aimed u 6)
      (λ h. if_less (Aimed i) u 0xDC00
      (λ k. if_equal (Aimed i) (byte_at t (i + 6)) 92 (λ p. if_equal (Aimed i) (byte_at t (i + 7)) 117 (λ q. low_aimed u (hex4_at t (i + 8))) (λ q. refl)) (λ p. refl))
      (λ k. checked_aimed u 6))

  aimed : {l : List ℕ} → Aims l → drop i t ≡ l → Aimed i (step_at t i)
  unfolding escape_at on_hex
  aimed (high {b} {r} lo hi) e =
      let p : byte_at t i ≡ b = first_there t i b r e 256 in
      rw (high_step t i b p lo hi) (raw_aimed b)
  aimed (escape {w} {u} d r) e =
      let p : byte_at t (i + 1) ≡ 117 = there t i (92 ∷ 117 ∷ []) (w ++ r) e 1 256 (omega arith) in
      let q : hex4_at t (i + 2) ≡ Ok u = four_value t (i + 2) d r (beyond t i (92 ∷ 117 ∷ []) (w ++ r) e) in
      let s : step_at t i ≡ unit_at t i u = backslash_step t i (117 ∷ w ++ r) e ∙ simp (p, q) in
      rw s (unit_aimed u)

  pub ill_step : Ill (drop i t) → step_at t i ≡ Err (Forbidden i)
  ill_step ill = go (step_at t i) refl (aimed ill.aims refl) (stands_at t i)
    where
      go : (s : Result (Option (ℕ × ℕ)) (Fault ℕ)) → step_at t i ≡ s → Aimed i s → StandsAt t i s → step_at t i ≡ Err (Forbidden i)
      go (Ok None) e a s = absurd a
      go (Ok (Some (c, n))) e a s = absurd (ill.misses s.bytes s.rest c s.split s.spelled)
      go (Err (Malformed p)) e a s = absurd a
      go (Err (Forbidden p)) e a s = e ∙ ap (λ n. Err (Forbidden n)) a

  pub step_place : (p : ℕ) → step_at t i ≡ Err (Forbidden p) → p ≡ i
  step_place p e = (subst (StandsAt t i) e (stands_at t i)).here

  pub step_ill : (p : ℕ) → step_at t i ≡ Err (Forbidden p) → Ill (drop i t)
  step_ill p e =
      record {
        aims = (subst (StandsAt t i) e (stands_at t i)).aims;
        misses = λ w r c split s. let q : step_at t i ≡ Ok (Some (c, length w)) = spelled_step t i s r split in let z : ◌≡◌ {A = ℕ} 0 1 = cc in omega arith;
      }
