-- What stands at a place inside a string, by rules, for every step:
--     stands_at        a quote; a spelled character; the beginning of a character that a byte can't continue; bytes that aim at a character
-- No bound on the elements of the text is asked: what is no byte is taken as the end.
-- Assumes nothing.
use Rattle.std.specs.Prelude.{Option, Some, None, Result, Ok, Err}
use Rattle.text.specs.declared.Fault.{Fault}
use Rattle.text.specs.declared.Fault.TheVariants.{Malformed, Forbidden}
use mathlib.Core.Path.{◌≡◌, refl, sym, subst, ◌∙◌}
use mathlib.Core.List.{List, [], ◌∷◌, ◌++◌, append_assoc}
use Prim.Native.Nat.{ℕ, ◌+◌, ◌-◌, ◌*◌, ◌%◌, ◌≤◌, ◌<◌}
use native.Mathlib.Omega.{arith}
use lib.ListN.{length, drop, length-append}
use Rattle.laws.proofs.Branches.{if_less, if_equal}
use Rattle.laws.proofs.Splits.{beyond}
use Rattle.text.specs.Text.{byte_at}
use Rattle.text.specs.Chars.{tail_of, seq2, seq3, seq4, tail_at, raw_at, low_at, pair_at, unit_at, on_hex, escape_at, step_by, step_at, letter_of, hex4_at}
use Rattle.text.specs.Spelling.{Good, FourDigits, Spell, raw, short, unit, pair}
use Rattle.text.specs.Broken.{Cut, control, ended, letter, digit, Aims, high, escape}
use Rattle.text.proofs.Spelling.Codes.{by_checked, ascii_good, one_byte, Shown, shown2, shown3, shown4}
use Rattle.text.proofs.Spelling.Digits.{short_letter, short_some, letter_short, four_length, next_byte, FourAt, FewAt, HexAt, hex_at}

-- ---- what a step says ----

-- from i on stand n bytes that spell c
pub record CharAt (t : List ℕ) (i c n : ℕ) : Type 0 where
  pub bytes : List ℕ
  pub rest : List ℕ
  pub split : drop i t ≡ bytes ++ rest
  pub size : length bytes ≡ n
  pub spelled : Spell bytes c

-- from i on begins a character that the byte at p can't continue
pub record CutAt (t : List ℕ) (i p : ℕ) : Type 0 where
  pub begun : List ℕ
  pub rest : List ℕ
  pub split : drop i t ≡ begun ++ rest
  pub place : p ≡ i + length begun
  pub cut : Cut begun (byte_at t p)

-- at p, which is i, stand bytes that aim at a character
pub record AimAt (t : List ℕ) (i p : ℕ) : Type 0 where
  pub here : p ≡ i
  pub aims : Aims (drop i t)

abbrev pub StandsAt : List ℕ → ℕ → Result (Option (ℕ × ℕ)) (Fault ℕ) → Type 0
StandsAt t i (Ok None) = byte_at t i ≡ 34
StandsAt t i (Ok (Some (c, n))) = CharAt t i c n
StandsAt t i (Err (Malformed p)) = CutAt t i p
StandsAt t i (Err (Forbidden p)) = AimAt t i p

-- ---- raw characters ----

ascii : (b : ℕ) → (b ≡ 34 → ⊥) → (b ≡ 92 → ⊥) → 32 ≤ b → b < 128 → Spell (b ∷ []) b
ascii b n m lo hi = subst (λ (w : List ℕ). Spell w b) (one_byte b hi) (raw (ascii_good b hi) (record { no_control = lo; no_quote = n; no_backslash = m }))

module _ (t : List ℕ) (i : ℕ) where
  raw_char : (c : ℕ) (w r : List ℕ) → Good c → Shown c w → drop i t ≡ w ++ r → CharAt t i c (length w)
  raw_char c w r g s e =
      let l = s.large in
      record { bytes = w; rest = r; split = e; size = refl; spelled = subst (λ (x : List ℕ). Spell x c) s.encoded (raw g (omega arith)) }

  raw_at_lem : 128 ≤ byte_at t i → byte_at t i < 256 → StandsAt t i (raw_at t i (byte_at t i))
  unfolding raw_at tail_at
  raw_at_lem lo hi =
      let b = byte_at t i in
      let b1 = byte_at t (i + 1) in
      let b2 = byte_at t (i + 2) in
      let b3 = byte_at t (i + 3) in
      let e0 : drop i t ≡ b ∷ drop (i + 1) t = next_byte t i (i + 1) b (drop (i + 1) t) refl hi refl refl in
      let bad : AimAt t i i = record { here = refl; aims = subst Aims (sym e0) (high lo hi) } in
      if_less (StandsAt t i) b 192 (λ h. bad)
      (λ h. if_less (StandsAt t i) b 224
      (λ k. by_checked (StandsAt t i) i (seq2 b (tail_of b1)) 2
      (λ g. let s = shown2 b b1 h k g in
      let e1 = next_byte t (i + 1) (i + 2) b1 (drop (i + 2) t) refl s.bytes.1.0 (omega arith) refl in
      raw_char (seq2 b (tail_of b1)) (b ∷ b1 ∷ []) (drop (i + 2) t) g s (cc)) (λ n. bad))
      (λ k. if_less (StandsAt t i) b 240
      (λ l. by_checked (StandsAt t i) i (seq3 b (tail_of b1) (tail_of b2)) 3
      (λ g. let s = shown3 b b1 b2 k l g in
      let e1 = next_byte t (i + 1) (i + 2) b1 (drop (i + 2) t) refl s.bytes.1.0 (omega arith) refl in
      let e2 = next_byte t (i + 2) (i + 3) b2 (drop (i + 3) t) refl s.bytes.1.1.0 (omega arith) refl in
      raw_char (seq3 b (tail_of b1) (tail_of b2)) (b ∷ b1 ∷ b2 ∷ []) (drop (i + 3) t) g s (cc)) (λ n. bad))
      (λ l. if_less (StandsAt t i) b 248
      (λ m. by_checked (StandsAt t i) i (seq4 b (tail_of b1) (tail_of b2) (tail_of b3)) 4
      (λ g. let s = shown4 b b1 b2 b3 l m g in
      let e1 = next_byte t (i + 1) (i + 2) b1 (drop (i + 2) t) refl s.bytes.1.0 (omega arith) refl in
      let e2 = next_byte t (i + 2) (i + 3) b2 (drop (i + 3) t) refl s.bytes.1.1.0 (omega arith) refl in
      let e3 = next_byte t (i + 3) (i + 4) b3 (drop (i + 4) t) refl s.bytes.1.1.1.0 (omega arith) refl in
      raw_char (seq4 b (tail_of b1) (tail_of b2) (tail_of b3)) (b ∷ b1 ∷ b2 ∷ b3 ∷ []) (drop (i + 4) t) g s (cc)) (λ n. bad))
      (λ m. bad))))

-- ---- escapes ----

-- a \u escape at i: two bytes, and what follows
module _ (t : List ℕ) (i : ℕ) (e : drop i t ≡ 92 ∷ 117 ∷ drop (i + 2) t) where
  cut_digits : (p : ℕ) → FewAt t (i + 2) p → CutAt t i p
  cut_digits p f =
      let at = f.place in
      let s = f.split in
      record { begun = 92 ∷ 117 ∷ f.digits; rest = f.rest; split = cc; place = omega arith; cut = digit f.are f.few f.lacks }

  module _ (u : ℕ) (f : FourAt t (i + 2) u) where
    whole : drop i t ≡ 92 ∷ 117 ∷ f.digits ++ f.rest
    whole = let s = f.split in cc

    aim : AimAt t i i
    aim = record { here = refl; aims = subst Aims (sym whole) (escape f.value f.rest) }

    unit_char : Good u → CharAt t i u 6
    unit_char g =
        record { bytes = 92 ∷ 117 ∷ f.digits; rest = f.rest; split = whole; size = omega (arith, four_length f.value); spelled = unit g f.value }

    -- behind the first escape stands a second one
    both : (low : ℕ) → byte_at t (i + 6) ≡ 92 → byte_at t (i + 7) ≡ 117 → (d : FourAt t (i + 8) low)
        → drop i t ≡ 92 ∷ 117 ∷ f.digits ++ 92 ∷ 117 ∷ d.digits ++ d.rest
    both low p6 p7 d =
        let n = four_length f.value in
        let six : i + 2 + length f.digits ≡ i + 6 = omega arith in
        let e6 : drop (i + 6) t ≡ f.rest = rw six at (beyond t (i + 2) f.digits f.rest f.split) in
        let e7 : drop (i + 7) t ≡ 117 ∷ d.digits ++ d.rest = next_byte t (i + 7) (i + 8) 117 (d.digits ++ d.rest) p7 (omega arith) (omega arith) d.split in
        let e8 : drop (i + 6) t ≡ 92 ∷ 117 ∷ d.digits ++ d.rest = next_byte t (i + 6) (i + 7) 92 (117 ∷ d.digits ++ d.rest) p6 (omega arith) (omega arith) e7 in
        whole ∙ rw (← e6, e8, append_assoc)

    pair_spelled : (w : List ℕ) (low : ℕ) → 0xD800 ≤ u → u < 0xDC00 → 0xDC00 ≤ low → low < 0xE000 → FourDigits w low
        → Good (65536 + u % 1024 * 1024 + low % 1024) → Spell (92 ∷ 117 ∷ f.digits ++ 92 ∷ 117 ∷ w) (65536 + u % 1024 * 1024 + low % 1024)
    pair_spelled w low lo hi lo1 hi1 d g =
        let h : ℕ = u - 0xD800 in
        let l : ℕ = low - 0xDC00 in
        let eu : u ≡ 0xD800 + h = omega arith in
        let el : low ≡ 0xDC00 + l = omega arith in
        let code : 65536 + u % 1024 * 1024 + low % 1024 ≡ 0x10000 + h * 0x400 + l = omega arith in
        rw code (pair (rw eu at f.value) (omega arith) (rw el at d) (omega arith) (rw code at g))

    pair_char : (low : ℕ) → 0xD800 ≤ u → u < 0xDC00 → 0xDC00 ≤ low → low < 0xE000 → byte_at t (i + 6) ≡ 92 → byte_at t (i + 7) ≡ 117 → FourAt t (i + 8) low
        → Good (65536 + u % 1024 * 1024 + low % 1024) → CharAt t i (65536 + u % 1024 * 1024 + low % 1024) 12
    pair_char low lo hi lo1 hi1 p6 p7 d g =
        record {
          bytes = 92 ∷ 117 ∷ f.digits ++ 92 ∷ 117 ∷ d.digits;
          rest = d.rest;
          split = both low p6 p7 d;
          size = omega (arith, four_length f.value, four_length d.value, length-append (92 ∷ 117 ∷ f.digits) (92 ∷ 117 ∷ d.digits));
          spelled = pair_spelled d.digits low lo hi lo1 hi1 d.value g;
        }

    low_at_lem : 0xD800 ≤ u → u < 0xDC00 → byte_at t (i + 6) ≡ 92 → byte_at t (i + 7) ≡ 117 → (h : Result ℕ ℕ) → HexAt t (i + 8) h → StandsAt t i (low_at i u h)
    unfolding low_at
    low_at_lem lo hi p6 p7 (Err p) d = aim
    low_at_lem lo hi p6 p7 (Ok low) d =
        if_less (StandsAt t i) low 0xDC00 (λ h. aim)
        (λ h. if_less (StandsAt t i) low 0xE000 (λ k. by_checked (StandsAt t i) i (65536 + u % 1024 * 1024 + low % 1024) 12 (pair_char low lo hi h k p6 p7 d) (λ n. aim)) (λ k. aim))

    unit_at_lem : StandsAt t i (unit_at t i u)
    unfolding unit_at pair_at
    unit_at_lem =
        let checked = by_checked (StandsAt t i) i u 6 unit_char (λ n. aim) in
        if_less (StandsAt t i) u 0xD800 (λ h. checked)
        (λ h. if_less (StandsAt t i) u 0xDC00
        (λ k. if_equal (StandsAt t i) (byte_at t (i + 6)) 92
        (λ p6. if_equal (StandsAt t i) (byte_at t (i + 7)) 117 (λ p7. low_at_lem h k p6 p7 (hex4_at t (i + 8)) (hex_at t (i + 8))) (λ n. aim)) (λ n. aim))
        (λ k. checked))

  on_hex_lem : (h : Result ℕ ℕ) → HexAt t (i + 2) h → StandsAt t i (on_hex t i h)
  unfolding on_hex
  on_hex_lem (Ok u) f = unit_at_lem u f
  on_hex_lem (Err p) f = cut_digits p f

module _ (t : List ℕ) (i : ℕ) where
  escape_at_lem : byte_at t i ≡ 92 → StandsAt t i (escape_at t i)
  unfolding escape_at
  escape_at_lem p0 =
      let b1 = byte_at t (i + 1) in
      let e0 : drop i t ≡ 92 ∷ drop (i + 1) t = next_byte t i (i + 1) 92 (drop (i + 1) t) p0 (omega arith) refl refl in
      if_equal (StandsAt t i) b1 117
      (λ h. let e1 = next_byte t (i + 1) (i + 2) 117 (drop (i + 2) t) h (omega arith) (omega arith) refl in
      on_hex_lem t i (cc) (hex4_at t (i + 2)) (hex_at t (i + 2)))
      (λ h. if_equal (StandsAt t i) (letter_of b1) 0
      (λ z. record {
        begun = 92 ∷ [];
        rest = drop (i + 1) t;
        split = e0;
        place = refl;
        cut = letter h (λ c s. let k = short_letter s in let l = short_some s in omega arith);
      })
      (λ n. let s = letter_short b1 n in
      let l = short_some s in
      let e1 = next_byte t (i + 1) (i + 2) b1 (drop (i + 2) t) refl l.byte (omega arith) refl in
      record { bytes = 92 ∷ b1 ∷ []; rest = drop (i + 2) t; split = cc; size = refl; spelled = short s }))

  -- ---- any step ----

  pub stands_at : StandsAt t i (step_at t i)
  unfolding step_by
  stands_at =
      let b = byte_at t i in
      if_equal (StandsAt t i) b 34 (λ h. h)
      (λ n. if_equal (StandsAt t i) b 92 escape_at_lem
      (λ m. if_less (StandsAt t i) b 32 (λ h. cut (control h))
      (λ h. if_less (StandsAt t i) b 128
      (λ k. record {
        bytes = b ∷ [];
        rest = drop (i + 1) t;
        split = next_byte t i (i + 1) b (drop (i + 1) t) refl (omega arith) refl refl;
        size = refl;
        spelled = ascii b n m h k;
      })
      (λ k. if_less (StandsAt t i) b 256 (raw_at_lem t i k) (λ l. cut (ended l))))))
    where
      cut : Cut [] (byte_at t i) → CutAt t i i
      cut c = record { begun = []; rest = drop i t; split = refl; place = omega arith; cut = c }
