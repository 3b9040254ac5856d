-- Runs of whole characters (`Chars`):
--     chars-join, chars-later     one run and then another; none goes back
--     chars-string                a string ends from behind a run on where it ends from before it on
--     stops-from                  what ends a string behind a run, from before it on
--     one-chars-end               as many as there are is one number
--     plains-chars                the first k of n bytes that were read as a number, if these are plain
-- Assumes nothing.
use Rattle.std.specs.Prelude.{Some, Ok}
use Prim.Native.Nat.{ℕ, zero, suc, ◌+◌, ◌*◌, ◌/◌, ◌%◌, ◌≤◌, ◌<◌}
use mathlib.Core.Path.{◌≡◌, refl, sym, ap, subst, ◌∙◌}
use Rattle.text.proofs.Spelling.Characters.{char_in}
use mathlib.Core.List.{List}
use native.Mathlib.Nat.{add-zero}
use native.Mathlib.Omega.{arith}
use lib.ListN.{length, get_or}
use borrow.Author.Tests.{lt-ltb, le-ltb, ne_eqb}
use Rattle.laws.proofs.Places.{any_default}
use Rattle.text.specs.Text.{byte_at}
use Rattle.text.specs.Chars.{step_by, step_at, Chars, stay, more}
use Rattle.text.specs.Strings.{string_end}
use Rattle.text.proofs.Walks.{end_at_lem}
use Rattle.json_reader.specs.Plain.{packed_at, Plain, Bytes, CharsEnd, Stops}
use Rattle.json_reader.specs.declared.strings.Stop.{Stop}

pub chars_join : {t : List ℕ} {i j k : ℕ} → Chars t i j → Chars t j k → Chars t i k
chars_join stay q = q
chars_join (more e p) q = more e (chars_join p q)

pub chars_later : {t : List ℕ} {i j : ℕ} → Chars t i j → i ≤ j
chars_later stay = omega arith
chars_later (more e p) = omega (arith, chars_later p)

pub chars_string : {t : List ℕ} {i j : ℕ} → Chars t i j → string_end t j ≡ string_end t i
chars_string stay = refl
chars_string {t} {i} (more {code = code} {len = len} e p) = chars_string p ∙ sym (end_at_lem t i (Ok (Some (code, len))) e)

pub stops_from : {t : List ℕ} {i j : ℕ} {s : Stop} → Chars t i j → Stops t j s → Stops t i s
stops_from c s =
    record {
      chars = record { chars = chars_join c s.chars.chars; ends = s.chars.ends };
      token = s.token ∙ chars_string c;
    }

pub one_chars_end : {t : List ℕ} {i a b : ℕ} → CharsEnd t i a → CharsEnd t i b → a ≡ b
one_chars_end x y = same x.chars y.chars x.ends y.ends
  where
    same : {t : List ℕ} {i a b : ℕ} → Chars t i a → Chars t i b → ((code len : ℕ) → step_at t a ≡ Ok (Some (code, len)) → ⊥)
        → ((code len : ℕ) → step_at t b ≡ Ok (Some (code, len)) → ⊥) → a ≡ b
    same stay stay m n = refl
    same stay (more {code = code} {len = len} e p) m n = absurd (m code len e)
    same (more {code = code} {len = len} e p) stay m n = absurd (n code len e)
    same {t} {b = b} (more {len = len} e p) (more {i = i} {len = other} f q) m n =
        let d : len ≡ other = ap (λ x. (char_in x).1) (sym e ∙ f) in
        same p (subst (λ k. Chars t (i + k) b) (sym d) q) m n

plain_step : (t : List ℕ) (i : ℕ) → Plain (byte_at t i) → step_at t i ≡ Ok (Some (byte_at t i, 1))
unfolding step_by
plain_step t i p =
    rw (ne_eqb (byte_at t i) 34 p.no_quote, ne_eqb (byte_at t i) 92 p.no_slash, le-ltb (byte_at t i) 32 p.printable, lt-ltb (byte_at t i) 128 p.ascii)

module _ (t : List ℕ) (bytes : (i : ℕ) → get_or t i 0 < 256) where
  pub plains_chars : (n k at : ℕ) → k ≤ n → at + n ≤ length t → Bytes Plain k (packed_at t n at) → Chars t at (at + k)
  unfolding packed_at
  plains_chars n zero at h l p = rw (add-zero at) stay
  plains_chars zero (suc k) at h l p = absurd (omega arith)
  plains_chars (suc n) (suc k) at h l p =
      let b = get_or t at 0 in
      let v = packed_at t n (at + 1) in
      let small = bytes at in
      let low : (b + 256 * v) % 256 ≡ byte_at t at = omega (arith, any_default 0 256 t at (omega arith)) in
      let high : (b + 256 * v) / 256 ≡ v = omega arith in
      let next : at + suc k ≡ at + 1 + k = omega arith in
      rw next (more (plain_step t at (subst Plain low p.0)) (plains_chars n k (at + 1) (omega arith) (omega arith) (subst (Bytes Plain k) high p.1)))
