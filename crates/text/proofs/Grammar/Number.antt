-- RFC 8259's number is read as its grammar says (`number_exact`), and a refusal's place is the first byte that can't continue. Assumes nothing.
use Rattle.std.specs.Prelude.{Result, Ok, Err}
use Rattle.text.specs.declared.Fault.{Fault}
use Rattle.text.specs.declared.Fault.TheVariants.{Malformed}
use mathlib.Core.Path.{◌≡◌, refl}
use mathlib.Core.List.{List, ◌++◌}
use mathlib.Core.Bool.{Bool, true, false, cond}
use Prim.Native.Nat.{ℕ, ◌+◌, ◌≤◌, ◌<◌}
use native.Mathlib.Omega.{arith}
use lib.Dec.{ltb, eqb}
use borrow.Author.Tests.{ltb-true, eqb-true, eqb-false, lt-ltb, le-ltb, eq-eqb, ne_eqb}
use Rattle.laws.proofs.Branches.{if_less, if_equal}
use Rattle.text.specs.Text.{byte_at}
use Rattle.text.specs.Tokens.{is_digit, then_at, digits_at, minus_end, int_at, frac_at, sign_end, exp_at, number_at}
use Rattle.text.specs.Abnf.{Byte, Between, Just, Seq, seq, Opt, this, that, Star}
use Rattle.text.specs.Grammar.{Digit, Digits, Int, Frac, E, Sign, Exp, Number}
use Rattle.text.proofs.Grammar.Stands.{clash}
use Rattle.text.proofs.Grammar.Exact.{Exact, TestOf, byte_of, run_of, seq_of, opt_of, or_of, ends_exact, same_exact, byte_exact, run_exact, seq_exact, opt_exact, or_exact}

-- ---- the tests ----

pub just_tells : (c : ℕ) → c < 256 → TestOf (λ x. x ≡ c) (λ x. eqb x c)
just_tells c h =
    record { sure = λ x e. eqb-true x c e; back = λ x e. eq-eqb x c e; small = λ x e. let k : x ≡ c = eqb-true x c e in omega arith }

-- one byte or another
abbrev pub is_or : ℕ → ℕ → ℕ → Bool
is_or a b x = cond (eqb x a) true (eqb x b)

pub or_tells : (P : ℕ → Type 0) (a b : ℕ) → a < 256 → b < 256 → P a → P b → ((x : ℕ) → P x → is_or a b x ≡ true) → TestOf P (is_or a b)
or_tells P a b ha hb pa pb back =
    record {
      sure = λ x. if_equal (λ (c : Bool). c ≡ true → P x) x a (λ k e. rw k pa) (λ k e. rw (eqb-true x b e) pb);
      back = back;
      small = λ x. if_equal (λ (c : Bool). c ≡ true → x < 256) x a (λ k e. omega arith) (λ k e. omega (arith, eqb-true x b e));
    }

e_tells : TestOf E (is_or 101 69)
e_tells = or_tells E 101 69 (omega arith) (omega arith) E.small E.capital back
  where
    back : (x : ℕ) → E x → is_or 101 69 x ≡ true
    back x E.small = refl
    back x E.capital = refl

sign_tells : TestOf Sign (is_or 45 43)
sign_tells = or_tells Sign 45 43 (omega arith) (omega arith) Sign.minus Sign.plus back
  where
    back : (x : ℕ) → Sign x → is_or 45 43 x ≡ true
    back x Sign.minus = refl
    back x Sign.plus = refl

-- from one byte to another
abbrev pub is_between : ℕ → ℕ → ℕ → Bool
is_between low past x = cond (ltb x low) false (ltb x past)

pub between : (low past x : ℕ) → is_between low past x ≡ true → (low ≤ x) × (x < past)
between low past x =
    if_less (λ (c : Bool). c ≡ true → (low ≤ x) × (x < past)) x low (λ k e. clash false e refl) (λ k e. (k, ltb-true x past e))

in_between : (low high x : ℕ) → Between low high x → is_between low (high + 1) x ≡ true
in_between low high x b =
    let p = b.from in
    let q = b.up_to in
    rw (le-ltb x low p, lt-ltb x (high + 1) (omega arith))

pub between_tells : (low high : ℕ) → high < 256 → TestOf (Between low high) (is_between low (high + 1))
between_tells low high h =
    record {
      sure = λ x e. let k = between low (high + 1) x e in record { from = k.0; up_to = omega arith };
      back = λ x b. in_between low high x b;
      small = λ x e. let k = between low (high + 1) x e in omega arith;
    }

pub digit_tells : TestOf (Between 48 57) is_digit
digit_tells = between_tells 48 57 (omega arith)

-- ---- a word's first byte ----

pub first_byte : {P : ℕ → Type 0} {is : ℕ → Bool} → TestOf P is → (w s : List ℕ) → Byte P w → is (byte_at (w ++ s) 0) ≡ true
first_byte h w s (Byte.byte {x} e) = h.back x e

pub first_seq : {P : ℕ → Type 0} {is : ℕ → Bool} → TestOf P is → (M : List ℕ → Type 0) (w s : List ℕ) → Seq (Byte P) M w → is (byte_at (w ++ s) 0) ≡ true
first_seq h M w s (seq (Byte.byte {x} e) d) = h.back x e

-- a digit is no sign and no point, and a point or an exponent's mark is no digit
record NoSign (x : ℕ) : Type 0 where
  no_minus : eqb x 45 ≡ false
  no_sign : is_or 45 43 x ≡ false

digit_apart : (x : ℕ) → 48 ≤ x → NoSign x
digit_apart x h =
    let a = ne_eqb x 45 (omega arith) in
    let b = ne_eqb x 43 (omega arith) in
    record { no_minus = a; no_sign = rw (a, b) }

-- what may stand after a number
pub record AfterNumber (z : ℕ) : Type 0 where
  pub digits : is_digit z ≡ false
  pub dots : eqb z 46 ≡ false
  pub powers : is_or 101 69 z ≡ false

module _ (t : List ℕ) where
  -- ---- the readers, as they are put together ----

  minus_of : ℕ → Result ℕ (Fault ℕ)
  minus_of i = Ok (minus_end t i)

  sign_of : ℕ → Result ℕ (Fault ℕ)
  sign_of i = Ok (sign_end t i)

  same_digits : (at : ℕ) → seq_of (byte_of t is_digit) (run_of t is_digit) at ≡ digits_at t at
  unfolding digits_at
  same_digits at = go (is_digit (byte_at t at))
    where
      go : (c : Bool) → then_at (run_of t is_digit) (cond c (Ok (at + 1)) (Err (Malformed at))) ≡ cond c (run_of t is_digit (at + 1)) (Err (Malformed at))
      go true = refl
      go false = refl

  same_minus : (at : ℕ) → opt_of t (λ x. eqb x 45) (byte_of t (λ x. eqb x 45)) at ≡ minus_of at
  unfolding minus_of minus_end
  same_minus at = go (eqb (byte_at t at) 45)
    where
      go : (c : Bool) → cond c (cond c (Ok (at + 1)) (Err (Malformed at))) (Ok at) ≡ Ok (cond c (at + 1) at)
      go true = refl
      go false = refl

  same_sign : (at : ℕ) → opt_of t (is_or 45 43) (byte_of t (is_or 45 43)) at ≡ sign_of at
  unfolding sign_of sign_end
  same_sign at = go (eqb (byte_at t at) 45) (eqb (byte_at t at) 43)
    where
      go : (c d : Bool) → cond (cond c true d) (cond (cond c true d) (Ok (at + 1)) (Err (Malformed at))) (Ok at) ≡ Ok (cond c (at + 1) (cond d (at + 1) at))
      go true d = refl
      go false true = refl
      go false false = refl

  first_digit : (x : ℕ) → (x ≡ 48 → ⊥) → is_between 49 58 x ≡ is_digit x
  first_digit x h =
      if_less (λ (c : Bool). is_between 49 58 x ≡ c) x 48
      (λ k. rw (lt-ltb x 49 (omega arith)))
      (λ k. rw (le-ltb x 49 (omega arith)))

  same_int : (at : ℕ) → or_of t (λ x. eqb x 48) (byte_of t (λ x. eqb x 48)) (seq_of (byte_of t (is_between 49 58)) (run_of t is_digit)) at ≡ int_at t at
  unfolding int_at digits_at
  same_int at = go (eqb (byte_at t at) 48) refl
    where
      rest : (c : Bool) → then_at (run_of t is_digit) (cond c (Ok (at + 1)) (Err (Malformed at))) ≡ cond c (run_of t is_digit (at + 1)) (Err (Malformed at))
      rest true = refl
      rest false = refl

      go : (c : Bool) → eqb (byte_at t at) 48 ≡ c
          → cond c (cond c (Ok (at + 1)) (Err (Malformed at))) (then_at (run_of t is_digit) (cond (is_between 49 58 (byte_at t at)) (Ok (at + 1)) (Err (Malformed at))))
          ≡ cond c (Ok (at + 1)) (cond (is_digit (byte_at t at)) (run_of t is_digit (at + 1)) (Err (Malformed at)))
      go true e = refl
      go false e = rw (first_digit (byte_at t at) (eqb-false (byte_at t at) 48 e)) (rest (is_digit (byte_at t at)))

  same_frac : (at : ℕ) → opt_of t (λ x. eqb x 46) (seq_of (byte_of t (λ x. eqb x 46)) (digits_at t)) at ≡ frac_at t at
  unfolding frac_at
  same_frac at = go (eqb (byte_at t at) 46)
    where
      go : (c : Bool) → cond c (then_at (digits_at t) (cond c (Ok (at + 1)) (Err (Malformed at)))) (Ok at) ≡ cond c (digits_at t (at + 1)) (Ok at)
      go true = refl
      go false = refl

  same_exp : (at : ℕ) → opt_of t (is_or 101 69) (seq_of (byte_of t (is_or 101 69)) (seq_of sign_of (digits_at t))) at ≡ exp_at t at
  unfolding exp_at sign_of
  same_exp at = go (eqb (byte_at t at) 101) (eqb (byte_at t at) 69)
    where
      all : ℕ → Result ℕ (Fault ℕ)
      all i = digits_at t (sign_end t i)

      go : (c d : Bool) → cond (cond c true d) (then_at all (cond (cond c true d) (Ok (at + 1)) (Err (Malformed at)))) (Ok at) ≡ cond c (all (at + 1)) (cond d (all (at + 1)) (Ok at))
      go true d = refl
      go false true = refl
      go false false = refl

  -- ---- their laws ----

  digits_exact : Exact t Digits (λ z. is_digit z ≡ false) (digits_at t)
  digits_exact =
      same_exact (digits_at t) same_digits
      (seq_exact t _ _ _ _ _ _ (byte_exact t digit_tells 48 (omega arith)) (run_exact t digit_tells) (λ v s d o. tt))

  minus_exact : Exact t (Opt (Just 45)) (λ z. Unit {0} × (eqb z 45 ≡ false)) minus_of
  minus_exact =
      same_exact minus_of same_minus
      (opt_exact t (λ x. eqb x 45) _ _ _ (byte_exact t (just_tells 45 (omega arith)) 45 refl) (first_byte (just_tells 45 (omega arith))))

  sign_exact : Exact t (Opt (Byte Sign)) (λ z. Unit {0} × (is_or 45 43 z ≡ false)) sign_of
  sign_exact =
      same_exact sign_of same_sign
      (opt_exact t (is_or 45 43) _ _ _ (byte_exact t sign_tells 45 Sign.minus) (first_byte sign_tells))

  int_exact : Exact t Int (λ z. Unit {0} × (is_digit z ≡ false)) (int_at t)
  int_exact =
      same_exact (int_at t) same_int
      (or_exact t (λ x. eqb x 48) _ _ _ _ _ _ (byte_exact t (just_tells 48 (omega arith)) 48 refl)
      (seq_exact t _ _ _ _ _ _ (byte_exact t (between_tells 49 57 (omega arith)) 49 (omega arith)) (run_exact t digit_tells) (λ v s d o. tt))
      (first_byte (just_tells 48 (omega arith))) (λ w s d. no_zero w s d))
    where
      no_zero : (w s : List ℕ) → Seq (Byte (Between 49 57)) (Star Digit) w → eqb (byte_at (w ++ s) 0) 48 ≡ false
      no_zero w s (seq (Byte.byte {x} b) d) = ne_eqb x 48 (λ e. omega (arith, b.from))

  frac_exact : Exact t (Opt Frac) (λ z. (is_digit z ≡ false) × (eqb z 46 ≡ false)) (frac_at t)
  frac_exact =
      same_exact (frac_at t) same_frac
      (opt_exact t (λ x. eqb x 46) _ _ _
      (seq_exact t _ _ _ _ _ _ (byte_exact t (just_tells 46 (omega arith)) 46 refl) digits_exact (λ v s d o. tt))
      (first_seq (just_tells 46 (omega arith)) Digits))

  exp_exact : Exact t (Opt Exp) (λ z. (is_digit z ≡ false) × (is_or 101 69 z ≡ false)) (exp_at t)
  exp_exact =
      same_exact (exp_at t) same_exp
      (opt_exact t (is_or 101 69) _ _ _
      (seq_exact t _ _ _ _ _ _ (byte_exact t e_tells 101 E.small)
      (seq_exact t _ _ _ _ _ _ sign_exact digits_exact (λ v s d o. (tt, no_sign v s d)))
      (λ v s d o. tt))
      (first_seq e_tells (Seq (Opt (Byte Sign)) Digits)))
    where
      no_sign : (v s : List ℕ) → Digits v → is_or 45 43 (byte_at (v ++ s) 0) ≡ false
      no_sign v s (seq (Byte.byte {x} b) d) = (digit_apart x b.from).no_sign

  -- ---- what stands after a part ends it ----

  after_frac : (v s : List ℕ) → Opt Exp v → AfterNumber (byte_at s 0) → (is_digit (byte_at (v ++ s) 0) ≡ false) × (eqb (byte_at (v ++ s) 0) 46 ≡ false)
  after_frac v s Opt.none o = (o.digits, o.dots)
  after_frac v s (Opt.some (seq (Byte.byte E.small) d)) o = (refl, refl)
  after_frac v s (Opt.some (seq (Byte.byte E.capital) d)) o = (refl, refl)

  after_int : (v s : List ℕ) → Opt Frac v → (is_digit (byte_at s 0) ≡ false) × (eqb (byte_at s 0) 46 ≡ false) → Unit {0} × (is_digit (byte_at (v ++ s) 0) ≡ false)
  after_int v s Opt.none o = (tt, o.0)
  after_int v s (Opt.some (seq (Byte.byte {x} e) d)) o = (tt, rw e)

  after_minus : (v s : List ℕ) → Int v → Unit {0} × (eqb (byte_at (v ++ s) 0) 45 ≡ false)
  after_minus v s (this (Byte.byte {x} e)) = (tt, rw e)
  after_minus v s (that (seq (Byte.byte {x} b) d)) = (tt, (digit_apart x (omega (arith, b.from))).no_minus)

  pub number_exact : Exact t Number AfterNumber (number_at t)
  unfolding number_at minus_of
  number_exact =
      seq_exact t _ _ _ _ _ _
      (seq_exact t _ _ _ _ _ _ (seq_exact t _ _ _ _ _ _ minus_exact int_exact (λ v s d o. after_minus v s d)) frac_exact after_int)
      (ends_exact AfterNumber (λ z o. (o.digits, o.powers)) exp_exact)
      after_frac
