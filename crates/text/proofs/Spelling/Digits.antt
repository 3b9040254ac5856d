-- The letters and the digits of escapes:
--     short-letter, letter-short   `letter_of` knows exactly the short escapes
--     digit_value, is_digit        `digit_of` knows exactly the hexadecimal digits
--     four-value, hex-at           `hex4_at` reads exactly four of them, and else says where the first lacks
-- Assumes nothing.
use Rattle.std.specs.Prelude.{Result, Ok, Err}
use mathlib.Core.Path.{◌≡◌, refl, sym, subst, ◌∙◌}
use mathlib.Core.List.{List, [], ◌∷◌, ◌++◌}
use mathlib.Core.Bool.{cond}
use Prim.Native.Nat.{ℕ, zero, suc, ◌+◌, ◌-◌, ◌*◌, ◌%◌, ◌≤◌, ◌<◌}
use native.Mathlib.Omega.{arith}
use lib.ListN.{length, get_or, drop}
use lib.Dec.{eqb}
use borrow.Author.Tests.{lt-ltb, le-ltb, ne_eqb}
use Rattle.laws.proofs.Branches.{if_less, if_equal}
use Rattle.laws.proofs.Places.{drop_byte, inside}
use Rattle.laws.proofs.Splits.{there, first_there}
use Rattle.text.specs.Text.{byte_at}
use Rattle.text.specs.Chars.{letter_of, digit_of, hex4_of, digit_at, hex4_at}
use Rattle.text.specs.Spelling.{HexDigit, decimal, capital, small, FourDigits, Short, quote, backslash, slash, backspace, form_feed, line_feed, carriage_return, tab}
use Rattle.text.specs.Spelling as Rules
use Rattle.text.specs.Broken.{HexDigits, none, more}

-- ---- the letters of short escapes ----

pub short_letter : {b c : ℕ} → Short b c → letter_of b ≡ c
unfolding letter_of
short_letter quote = refl
short_letter backslash = refl
short_letter slash = refl
short_letter backspace = refl
short_letter form_feed = refl
short_letter line_feed = refl
short_letter carriage_return = refl
short_letter tab = refl

-- a letter stands for some character of ASCII, and is no u
pub record Letter (b c : ℕ) : Type 0 where
  pub some : 0 < c
  pub ascii : c < 128
  pub byte : b < 256
  pub other : b ≡ 117 → ⊥

pub short_some : {b c : ℕ} → Short b c → Letter b c
short_some quote = omega arith
short_some backslash = omega arith
short_some slash = omega arith
short_some backspace = omega arith
short_some form_feed = omega arith
short_some line_feed = omega arith
short_some carriage_return = omega arith
short_some tab = omega arith

-- a letter stands for something, or for 0
Meant : (b c : ℕ) → Type 0
Meant b c = (c ≡ 0 → ⊥) → Short b c

module _ (b : ℕ) where
  meant : (x : ℕ) (c y : ℕ) → Short x c → ((b ≡ x → ⊥) → Meant b y) → Meant b (cond (eqb b x) c y)
  unfolding Meant
  meant x c y s later = if_equal (Meant b) b x (λ e h. subst (λ (z : ℕ). Short z c) (sym e) s) later

  pub letter_short : (letter_of b ≡ 0 → ⊥) → Short b (letter_of b)
  unfolding letter_of Meant
  letter_short =
      meant 34 34 _ quote
      (λ h. meant 47 47 _ slash
      (λ h. meant 92 92 _ backslash
      (λ h. meant 98 8 _ backspace
      (λ h. meant 102 12 _ form_feed
      (λ h. meant 110 10 _ line_feed
      (λ h. meant 114 13 _ carriage_return
      (λ h. meant 116 9 0 tab (λ h k. absurd (k refl)))))))))

-- ---- digits ----

pub digit_value : {b v : ℕ} → HexDigit b v → digit_of b ≡ v
unfolding digit_of
digit_value (decimal {v} h) = simp (le-ltb (48 + v) 48 (omega arith), lt-ltb (48 + v) 58 (omega arith)) (omega arith)
digit_value (capital {v} l h) =
    simp (le-ltb (55 + v) 48 (omega arith), le-ltb (55 + v) 58 (omega arith), le-ltb (55 + v) 65 (omega arith), lt-ltb (55 + v) 71 (omega arith)) (omega arith)
digit_value (small {v} l h) =
    simp (le-ltb (87 + v) 48 (omega arith), le-ltb (87 + v) 58 (omega arith), le-ltb (87 + v) 65 (omega arith), le-ltb (87 + v) 71 (omega arith), le-ltb (87 + v) 97 (omega arith), lt-ltb (87 + v) 103 (omega arith)) (omega arith)

pub record Bounds (b v : ℕ) : Type 0 where
  pub value : v < 16
  pub byte : b < 256

pub digit_bounds : {b v : ℕ} → HexDigit b v → Bounds b v
digit_bounds (decimal h) = omega arith
digit_bounds (capital l h) = omega arith
digit_bounds (small l h) = omega arith

-- a number below 16 that `digit_of` gives is the digit's value
pub is_digit_lem : (b : ℕ) → (digit_of b ≡ 16 → ⊥) → HexDigit b (digit_of b)
unfolding digit_of
is_digit_lem b =
    if_less P b 48 other
    (λ h. if_less P b 58 (λ k n. at 48 h (decimal (omega arith)))
    (λ k. if_less P b 65 other
    (λ l. if_less P b 71 (λ m n. at 55 (omega arith) (capital (omega arith) (omega arith)))
    (λ m. if_less P b 97 other
    (λ n. if_less P b 103 (λ o p. at 87 (omega arith) (small (omega arith) (omega arith))) other)))))
  where
    P : ℕ → Type 0
    P v = (v ≡ 16 → ⊥) → HexDigit b v

    at : (from : ℕ) → from ≤ b → HexDigit (from + (b - from)) (b - from) → HexDigit b (b - from)
    at from h d = let e : from + (b - from) ≡ b = omega arith in subst (λ (x : ℕ). HexDigit x (b - from)) e d

    other : {A : Type 0} → A → P 16
    other h n = absurd (n refl)

pub no_digit : (b : ℕ) → digit_of b ≡ 16 → (v : ℕ) → HexDigit b v → ⊥
no_digit b e v d = let h = digit_bounds d in let k = digit_value d in omega arith

-- ---- four digits ----

pub four_value : (t : List ℕ) (j : ℕ) {w : List ℕ} {u : ℕ} → FourDigits w u → (r : List ℕ) → drop j t ≡ w ++ r → hex4_at t j ≡ Ok u
unfolding hex4_at hex4_of digit_at
four_value t j (Rules.four {a} {b} {c} {d} {w} {x} {y} {z} p q m n) r e =
    let first : byte_at t j ≡ a = first_there t j a (b ∷ c ∷ d ∷ r) e 256 in
    let second : byte_at t (j + 1) ≡ b = there t j (a ∷ b ∷ c ∷ d ∷ []) r e 1 256 (omega arith) in
    let third : byte_at t (j + 2) ≡ c = there t j (a ∷ b ∷ c ∷ d ∷ []) r e 2 256 (omega arith) in
    let fourth : byte_at t (j + 3) ≡ d = there t j (a ∷ b ∷ c ∷ d ∷ []) r e 3 256 (omega arith) in
    let w' = digit_bounds p in
    let x' = digit_bounds q in
    let y' = digit_bounds m in
    let z' = digit_bounds n in
    let value : w % 16 * 4096 + x % 16 * 256 + y % 16 * 16 + z % 16 ≡ w * 4096 + x * 256 + y * 16 + z = omega arith in
    simp (
      first,
      second,
      third,
      fourth,
      digit_value p,
      digit_value q,
      digit_value m,
      digit_value n,
      ne_eqb w 16 (omega arith),
      ne_eqb x 16 (omega arith),
      ne_eqb y 16 (omega arith),
      ne_eqb z 16 (omega arith),
      value,
    )

pub four_length : {w : List ℕ} {u : ℕ} → FourDigits w u → length w ≡ 4
four_length (Rules.four p q m n) = refl

-- ---- what stands where four digits should ----

pub record FourAt (t : List ℕ) (j u : ℕ) : Type 0 where
  pub digits : List ℕ
  pub rest : List ℕ
  pub split : drop j t ≡ digits ++ rest
  pub value : FourDigits digits u

pub record FewAt (t : List ℕ) (j p : ℕ) : Type 0 where
  pub digits : List ℕ
  pub rest : List ℕ
  pub split : drop j t ≡ digits ++ rest
  pub place : p ≡ j + length digits
  pub few : length digits < 4
  pub are : HexDigits digits
  pub lacks : (v : ℕ) → HexDigit (byte_at t p) v → ⊥

abbrev pub HexAt : List ℕ → ℕ → Result ℕ ℕ → Type 0
HexAt t j (Ok u) = FourAt t j u
HexAt t j (Err p) = FewAt t j p

-- the text from j on begins with these bytes
pub next_byte : (t : List ℕ) (j k b : ℕ) (r : List ℕ) → byte_at t j ≡ b → b < 256 → j + 1 ≡ k → drop k t ≡ r → drop j t ≡ b ∷ r
next_byte t j k b r e h p q =
    let l = inside t j (omega arith) in
    drop_byte t j l ∙ (cc)

module _ (t : List ℕ) (j : ℕ) where
  few_at : (w : List ℕ) (p : ℕ) → HexDigits w → drop j t ≡ w ++ drop p t → p ≡ j + length w → length w < 4 → digit_of (byte_at t p) ≡ 16 → FewAt t j p
  few_at w p are e at few l = record { digits = w; rest = drop p t; split = e; place = at; few = few; are = are; lacks = no_digit (byte_at t p) l }

  pub hex_at : HexAt t j (hex4_at t j)
  unfolding hex4_at hex4_of digit_at
  hex_at =
      let a = byte_at t j in
      let b = byte_at t (j + 1) in
      let c = byte_at t (j + 2) in
      let d = byte_at t (j + 3) in
      if_equal (HexAt t j) (digit_of a) 16 (λ e. few_at [] j none refl (omega arith) (omega arith) e)
      (λ m. let p = is_digit_lem a m in let k = digit_bounds p in
      let u1 : drop j t ≡ (a ∷ []) ++ drop (j + 1) t = next_byte t j (j + 1) a (drop (j + 1) t) refl k.byte refl refl in
      if_equal (HexAt t j) (digit_of b) 16 (λ e. few_at (a ∷ []) (j + 1) (more p none) u1 (omega arith) (omega arith) e)
      (λ n. let q = is_digit_lem b n in let l = digit_bounds q in
      let u2 : drop (j + 1) t ≡ b ∷ drop (j + 2) t = next_byte t (j + 1) (j + 2) b (drop (j + 2) t) refl l.byte (omega arith) refl in
      if_equal (HexAt t j) (digit_of c) 16 (λ e. few_at (a ∷ b ∷ []) (j + 2) (more p (more q none)) (cc) (omega arith) (omega arith) e)
      (λ o. let r = is_digit_lem c o in let h = digit_bounds r in
      let u3 : drop (j + 2) t ≡ c ∷ drop (j + 3) t = next_byte t (j + 2) (j + 3) c (drop (j + 3) t) refl h.byte (omega arith) refl in
      if_equal (HexAt t j) (digit_of d) 16 (λ e. few_at (a ∷ b ∷ c ∷ []) (j + 3) (more p (more q (more r none))) (cc) (omega arith) (omega arith) e)
      (λ f. let s = is_digit_lem d f in let g = digit_bounds s in
      let u4 : drop (j + 3) t ≡ d ∷ drop (j + 4) t = next_byte t (j + 3) (j + 4) d (drop (j + 4) t) refl g.byte (omega arith) refl in
      let value : digit_of a * 4096 + digit_of b * 256 + digit_of c * 16 + digit_of d ≡ digit_of a % 16 * 4096 + digit_of b % 16 * 256 + digit_of c % 16 * 16 + digit_of d % 16 = omega arith in
      record { digits = a ∷ b ∷ c ∷ d ∷ []; rest = drop (j + 4) t; split = cc; value = subst (FourDigits (a ∷ b ∷ c ∷ d ∷ [])) value (Rules.four p q r s) }))))

-- ---- each of some digits is one ----

pub four_digits : {w : List ℕ} {u : ℕ} → FourDigits w u → HexDigits w
four_digits (Rules.four p q r s) = more p (more q (more r (more s none)))

pub each_digit : {w : List ℕ} → HexDigits w → (k : ℕ) → k < length w → (v : ℕ) × HexDigit (get_or w k 256) v
each_digit none k h = absurd (omega arith)
each_digit (more {v = v} d r) zero h = (v, d)
each_digit (more d r) (suc k) h = each_digit r k (omega arith)
