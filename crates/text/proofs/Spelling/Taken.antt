-- A character that is spelled is taken: where the bytes from a place on begin with a spelling of c, the step there is c, as long as the spelling.
--     spelled_step         for any text and place
--     high-step            a byte of 128 or more begins a raw character
--     backslash-step       a backslash begins an escape
-- Assumes nothing.
use Rattle.std.specs.Prelude.{Some, Ok}
use mathlib.Core.Path.{◌≡◌, ap, ◌∙◌}
use mathlib.Core.List.{List, [], ◌∷◌, ◌++◌, append_assoc}
use mathlib.Core.Logic.{⊎_elim}
use Prim.Native.Nat.{ℕ, ◌+◌, ◌*◌, ◌/◌, ◌%◌, ◌≤◌, ◌<◌}
use native.Mathlib.Decide.{dec_lt}
use native.Mathlib.Omega.{arith}
use lib.ListN.{length, drop, length-append}
use borrow.Author.Tests.{lt-ltb, le-ltb, ne_eqb}
use Rattle.laws.proofs.Splits.{there, first_there, beyond}
use Rattle.text.specs.Text.{byte_at}
use Rattle.text.specs.Chars.{checked_at, seq3, seq4, tail_at, raw_at, low_at, pair_at, unit_at, on_hex, escape_at, step_by, step_at, hex4_at}
use Rattle.text.specs.Utf8.{utf8}
use Rattle.text.specs.Spelling.{Good, Bare, FourDigits, Short, Spell, raw, short, unit, pair}
use Rattle.text.proofs.Spelling.Codes.{good_checked, by_utf8, tail_bits, joined2, joined3, joined4}
use Rattle.text.proofs.Spelling.Digits.{short_letter, short_some, four_value, four_length}

-- ---- raw characters ----

module _ (t : List ℕ) (i : ℕ) where
  -- a byte of 128 or more begins a raw character
  pub high_step : (b : ℕ) → byte_at t i ≡ b → 128 ≤ b → b < 256 → step_at t i ≡ raw_at t i b
  unfolding step_by
  high_step b p lo hi = simp (p, ne_eqb b 34 (omega arith), ne_eqb b 92 (omega arith), le-ltb b 32 (omega arith), le-ltb b 128 lo, lt-ltb b 256 hi)

  raw_step : (c : ℕ) → Good c → Bare c → (r : List ℕ) → drop i t ≡ utf8 c ++ r → step_at t i ≡ Ok (Some (c, length (utf8 c)))
  unfolding step_by raw_at tail_at
  raw_step c g u r =
      by_utf8 (λ w. drop i t ≡ w ++ r → step_at t i ≡ Ok (Some (c, length w))) c
      (λ h e.
      let p0 : byte_at t i ≡ c = first_there t i c r e 256 in
      simp (p0, ne_eqb c 34 u.no_quote, ne_eqb c 92 u.no_backslash, le-ltb c 32 u.no_control, lt-ltb c 128 h))
      (λ lo hi e.
      let b : ℕ = 192 + c / 64 % 32 in
      let b1 : ℕ = 128 + c % 64 in
      let p0 : byte_at t i ≡ b = first_there t i b (b1 ∷ r) e 256 in
      let p1 : byte_at t (i + 1) ≡ b1 = there t i (b ∷ b1 ∷ []) r e 1 256 (omega arith) in
      high_step b p0 (omega arith) (omega arith)
      ∙ simp (p1, le-ltb b 192 (omega arith), lt-ltb b 224 (omega arith), tail_bits (c % 64) (omega arith), joined2 c lo hi, good_checked i c 2 g))
      (λ lo hi e.
      let b : ℕ = 224 + c / 4096 % 16 in
      let x : ℕ = c / 64 % 64 in
      let y : ℕ = c % 64 in
      let w : List ℕ = b ∷ (128 + x) ∷ (128 + y) ∷ [] in
      let p0 : byte_at t i ≡ b = first_there t i b ((128 + x) ∷ (128 + y) ∷ r) e 256 in
      let p1 : byte_at t (i + 1) ≡ 128 + x = there t i w r e 1 256 (omega arith) in
      let p2 : byte_at t (i + 2) ≡ 128 + y = there t i w r e 2 256 (omega arith) in
      let first : raw_at t i b ≡ checked_at i (seq3 b (tail_at t (i + 1)) (tail_at t (i + 2))) 3 = simp (le-ltb b 192 (omega arith), le-ltb b 224 (omega arith), lt-ltb b 240 (omega arith)) in
      high_step b p0 (omega arith) (omega arith) ∙ first ∙ simp (p1, p2, tail_bits x (omega arith), tail_bits y (omega arith), joined3 c lo hi, good_checked i c 3 g))
      (λ lo e.
      let b : ℕ = 240 + c / 262144 % 8 in
      let x : ℕ = c / 4096 % 64 in
      let y : ℕ = c / 64 % 64 in
      let z : ℕ = c % 64 in
      let w : List ℕ = b ∷ (128 + x) ∷ (128 + y) ∷ (128 + z) ∷ [] in
      let p0 : byte_at t i ≡ b = first_there t i b ((128 + x) ∷ (128 + y) ∷ (128 + z) ∷ r) e 256 in
      let p1 : byte_at t (i + 1) ≡ 128 + x = there t i w r e 1 256 (omega arith) in
      let p2 : byte_at t (i + 2) ≡ 128 + y = there t i w r e 2 256 (omega arith) in
      let p3 : byte_at t (i + 3) ≡ 128 + z = there t i w r e 3 256 (omega arith) in
      let first : raw_at t i b ≡ checked_at i (seq4 b (tail_at t (i + 1)) (tail_at t (i + 2)) (tail_at t (i + 3))) 4 =
      simp (le-ltb b 192 (omega arith), le-ltb b 224 (omega arith), le-ltb b 240 (omega arith), lt-ltb b 248 (omega arith)) in
      high_step b p0 (omega arith) (omega arith) ∙ first
      ∙ simp (p1, p2, p3, tail_bits x (omega arith), tail_bits y (omega arith), tail_bits z (omega arith), joined4 c lo g.scalar.within_range, good_checked i c 4 g))

  -- ---- escapes ----

  -- a backslash begins an escape
  pub backslash_step : (r : List ℕ) → drop i t ≡ 92 ∷ r → step_at t i ≡ escape_at t i
  unfolding step_by
  backslash_step r e = let p : byte_at t i ≡ 92 = first_there t i 92 r e 256 in rw p

  short_step : {b c : ℕ} → Short b c → (r : List ℕ) → drop i t ≡ 92 ∷ b ∷ r → escape_at t i ≡ Ok (Some (c, 2))
  unfolding escape_at
  short_step {b} {c} s r e =
      let p : byte_at t (i + 1) ≡ b = there t i (92 ∷ b ∷ []) r e 1 256 (omega arith) in
      let l = short_some s in
      simp (p, ne_eqb b 117 l.other, short_letter s, ne_eqb c 0 (omega arith))

  unit_step : {w : List ℕ} {c : ℕ} → Good c → FourDigits w c → (r : List ℕ) → drop i t ≡ 92 ∷ 117 ∷ w ++ r → escape_at t i ≡ Ok (Some (c, 6))
  unfolding escape_at on_hex unit_at
  unit_step {w} {c} g d r e =
      let p : byte_at t (i + 1) ≡ 117 = there t i (92 ∷ 117 ∷ []) (w ++ r) e 1 256 (omega arith) in
      let q : hex4_at t (i + 2) ≡ Ok c = four_value t (i + 2) d r (beyond t i (92 ∷ 117 ∷ []) (w ++ r) e) in
      elim (dec_lt c 0xD800) [
        | yes h ↦ simp (p, q, lt-ltb c 0xD800 h) (good_checked i c 6 g)
        | no h ↦ simp (p, q, le-ltb c 0xD800 (omega arith), le-ltb c 0xDC00 (⊎_elim (λ (l : c < 0xD800). omega arith) (λ (l : 0xE000 ≤ c). omega arith) g.scalar.no_surrogate)) (good_checked i c 6 g)
      ]

  pair_step : {v w : List ℕ} {h l : ℕ} → FourDigits v (0xD800 + h) → h < 0x400 → FourDigits w (0xDC00 + l) → l < 0x400 → Good (0x10000 + h * 0x400 + l)
      → (r : List ℕ) → drop i t ≡ 92 ∷ 117 ∷ v ++ (92 ∷ 117 ∷ w ++ r) → escape_at t i ≡ Ok (Some (0x10000 + h * 0x400 + l, 12))
  unfolding escape_at on_hex unit_at pair_at low_at
  pair_step {v} {w} {h} {l} d hh f ll g r e =
      let p1 : byte_at t (i + 1) ≡ 117 = there t i (92 ∷ 117 ∷ []) (v ++ (92 ∷ 117 ∷ w ++ r)) e 1 256 (omega arith) in
      let e2 : drop (i + 2) t ≡ v ++ (92 ∷ 117 ∷ w ++ r) = beyond t i (92 ∷ 117 ∷ []) (v ++ (92 ∷ 117 ∷ w ++ r)) e in
      let q2 : hex4_at t (i + 2) ≡ Ok (0xD800 + h) = four_value t (i + 2) d (92 ∷ 117 ∷ w ++ r) e2 in
      let six : i + 2 + length v ≡ i + 6 = omega (arith, four_length d) in
      let seven : i + 6 + 1 ≡ i + 7 = omega arith in
      let eight : i + 6 + 2 ≡ i + 8 = omega arith in
      let e6 : drop (i + 6) t ≡ 92 ∷ 117 ∷ w ++ r = rw six at (beyond t (i + 2) v (92 ∷ 117 ∷ w ++ r) e2) in
      let p6 : byte_at t (i + 6) ≡ 92 = first_there t (i + 6) 92 (117 ∷ w ++ r) e6 256 in
      let p7 : byte_at t (i + 7) ≡ 117 = rw seven at (there t (i + 6) (92 ∷ 117 ∷ []) (w ++ r) e6 1 256 (omega arith)) in
      let e8 : drop (i + 8) t ≡ w ++ r = rw eight at (beyond t (i + 6) (92 ∷ 117 ∷ []) (w ++ r) e6) in
      let q8 : hex4_at t (i + 8) ≡ Ok (0xDC00 + l) = four_value t (i + 8) f r e8 in
      let value : 65536 + (0xD800 + h) % 1024 * 1024 + (0xDC00 + l) % 1024 ≡ 0x10000 + h * 0x400 + l = omega arith in
      simp (
        p1,
        q2,
        le-ltb (0xD800 + h) 0xD800 (omega arith),
        lt-ltb (0xD800 + h) 0xDC00 (omega arith),
        p6,
        p7,
        q8,
        le-ltb (0xDC00 + l) 0xDC00 (omega arith),
        lt-ltb (0xDC00 + l) 0xE000 (omega arith),
        value,
      ) (good_checked i (0x10000 + h * 0x400 + l) 12 g)

  -- ---- any spelling ----

  pub spelled_step : {w : List ℕ} {c : ℕ} → Spell w c → (r : List ℕ) → drop i t ≡ w ++ r → step_at t i ≡ Ok (Some (c, length w))
  spelled_step (raw {c} g u) r e = raw_step c g u r e
  spelled_step (short {b} s) r e = backslash_step (b ∷ r) e ∙ short_step s r e
  spelled_step (unit {w} {c} g d) r e = backslash_step (117 ∷ w ++ r) e ∙ unit_step g d r e ∙ ap (λ m. Ok (Some (c, m))) (omega (arith, four_length d))
  spelled_step (pair {v} {w} {h} {l} d hh f ll g) r e =
      let e1 : drop i t ≡ 92 ∷ 117 ∷ v ++ (92 ∷ 117 ∷ w ++ r) = e ∙ append_assoc (92 ∷ 117 ∷ v) (92 ∷ 117 ∷ w) r in
      let n : 12 ≡ length (92 ∷ 117 ∷ v ++ 92 ∷ 117 ∷ w) = omega (arith, length-append (92 ∷ 117 ∷ v) (92 ∷ 117 ∷ w), four_length d, four_length f) in
      backslash_step (117 ∷ v ++ (92 ∷ 117 ∷ w ++ r)) e1 ∙ pair_step d hh f ll g r e1 ∙ ap (λ m. Ok (Some (0x10000 + h * 0x400 + l, m))) n
