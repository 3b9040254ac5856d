-- Where white space, literals, numbers and strings end:
--     run_on, run_end        a run's own equation: a byte of it, and then the run from the next place on
--     run-byte, run-span     a byte of a run stands inside the text; a run ends where it starts or later, inside the text
--     skip-span              the same for white space
--     token-span             a token ends after its first byte, inside the text
-- Assumes nothing.
use Rattle.std.specs.Prelude.{Result, Ok, Err}
use Rattle.text.specs.declared.Fault.{Fault}
use Rattle.text.specs.declared.Fault.TheVariants.{Malformed, Forbidden}
use mathlib.Core.Path.{◌≡◌, refl, subst, ◌∙◌}
use mathlib.Core.List.{List, [], ◌∷◌}
use mathlib.Core.Bool.{Bool, true, false, cond}
use Prim.Native.Nat.{ℕ, zero, suc, ◌+◌, ◌-◌, ◌≤◌, ◌<◌}
use native.Mathlib.Decide.{dec_le}
use native.Mathlib.Omega.{arith}
use lib.ListN.{length, get_or-eq_default}
use lib.Dec.{eqb}
use borrow.Author.Tests.{eqb-true}
use Rattle.laws.proofs.Scans.{scan_step}
use Rattle.laws.proofs.Places.{inside}
use Rattle.text.specs.Text.{byte_at, bytes}
use Rattle.text.specs.Strings.{string_end}
use Rattle.text.specs.Tokens.{run_body, run_end, is_space, skip, is_digit, digits_end, word_at, then_at, digits_at, minus_end, int_at, frac_at, sign_end, exp_at, number_at, token_at}
use Rattle.text.proofs.Laws.{end_inside}

-- the place `to` is at or after the place i, and inside the text
pub record Span (t : List ℕ) (i to : ℕ) : Type 0 where
  pub later : i ≤ to
  pub inside : to ≤ length t

-- ---- runs ----

module _ (is : ℕ → Bool) (t : List ℕ) (ends : is 256 ≡ false) where
  run_step : (i : ℕ) → run_end is t i ≡ cond (is (byte_at t i)) (run_end is t (i + 1)) i
  unfolding run_end
  run_step i =
      scan_step (run_body is t) 0 (length t)
      (λ k l j e. rw (e (j + 1) (omega arith)))
      (λ k l j h. rw (get_or-eq_default t 256 h, ends))
      i

  pub run_on_lem : (i : ℕ) → is (byte_at t i) ≡ true → run_end is t i ≡ run_end is t (i + 1)
  run_on_lem i h = run_step i ∙ rw h

  pub run_end_lem : (i : ℕ) → is (byte_at t i) ≡ false → run_end is t i ≡ i
  run_end_lem i h = run_step i ∙ rw h

  pub run_byte : (i : ℕ) → is (byte_at t i) ≡ true → i < length t
  run_byte i h = elim (dec_le (length t) i) [
    | yes k ↦
        let e : is 256 ≡ true = rw (get_or-eq_default t 256 k) at h in
        let z : ◌≡◌ {A = ℕ} 0 1 = cc in
        absurd (omega arith)
    | no k ↦ omega arith
  ]

  -- by the number of bytes left, f
  span : (f i : ℕ) → length t - i < f → i ≤ length t → Span t i (run_end is t i)
  span zero i h k = absurd (omega arith)
  span (suc f) i h k = go (is (byte_at t i)) refl (λ l. span f (i + 1) (omega arith) l)
    where
      go : (b : Bool) → is (byte_at t i) ≡ b → (i + 1 ≤ length t → Span t (i + 1) (run_end is t (i + 1))) → Span t i (run_end is t i)
      go true e more = rw (run_on_lem i e) (let l = run_byte i e in let m = more (omega arith) in omega arith)
      go false e more = rw (run_end_lem i e) (omega arith)

  pub run_span : (i : ℕ) → i ≤ length t → Span t i (run_end is t i)
  run_span i k = span (suc (length t - i)) i (omega arith) k

module _ (t : List ℕ) where
  pub skip_span : (i : ℕ) → i ≤ length t → Span t i (skip t i)
  skip_span = run_span is_space t refl

-- ---- tokens ----

-- a token that ends does so at or after the place i, inside the text
abbrev In : List ℕ → ℕ → Result ℕ (Fault ℕ) → Type 0
In t i (Ok to) = Span t i to
In t i (Err (Malformed p)) = Prim.Unit {0}
In t i (Err (Forbidden p)) = Prim.Unit {0}

either : (P : Result ℕ (Fault ℕ) → Type 0) (b : Bool) (x y : Result ℕ (Fault ℕ)) → (b ≡ true → P x) → (b ≡ false → P y) → P (cond b x y)
either P true x y p q = p refl
either P false x y p q = q refl

module _ (t : List ℕ) where
  then_in : (i : ℕ) (f : ℕ → Result ℕ (Fault ℕ)) (token : Result ℕ (Fault ℕ)) → In t i token → ((to : ℕ) → Span t i to → In t i (f to)) → In t i (then_at f token)
  then_in i f (Ok to) h k = k to h
  then_in i f (Err (Malformed p)) h k = tt
  then_in i f (Err (Forbidden p)) h k = tt

  from_in : (i j : ℕ) (token : Result ℕ (Fault ℕ)) → i ≤ j → In t j token → In t i token
  from_in i j (Ok to) h s = omega arith
  from_in i j (Err (Malformed p)) h s = tt
  from_in i j (Err (Forbidden p)) h s = tt

  byte_in : (i b : ℕ) → b < 256 → eqb (byte_at t i) b ≡ true → Span t (i + 1) (i + 1)
  byte_in i b h e = let k = inside t i (omega (arith, eqb-true (byte_at t i) b e)) in omega arith

  digits_in : (i : ℕ) → In t (i + 1) (digits_at t i)
  unfolding digits_at
  digits_in i =
      either (In t (i + 1)) (is_digit (byte_at t i)) (Ok (digits_end t (i + 1))) (Err (Malformed i))
      (λ e. let l = run_byte is_digit t refl i e in run_span is_digit t refl (i + 1) (omega arith))
      (λ e. tt)

  -- the place after one byte, if it stands there
  one_in : (i b : ℕ) → b < 256 → i ≤ length t → Span t i (cond (eqb (byte_at t i) b) (i + 1) i)
  one_in i b h k = go (eqb (byte_at t i) b) refl
    where
      go : (x : Bool) → eqb (byte_at t i) b ≡ x → Span t i (cond x (i + 1) i)
      go true e = let l = byte_in i b h e in omega arith
      go false e = omega arith

  int_in : (i : ℕ) → In t (i + 1) (int_at t i)
  unfolding int_at
  int_in i =
      either (In t (i + 1)) (eqb (byte_at t i) 48) (Ok (i + 1)) (digits_at t i)
      (λ e. byte_in i 48 (omega arith) e)
      (λ e. digits_in i)

  frac_in : (i : ℕ) → i ≤ length t → In t i (frac_at t i)
  unfolding frac_at
  frac_in i k =
      either (In t i) (eqb (byte_at t i) 46) (digits_at t (i + 1)) (Ok i)
      (λ e. from_in i (i + 1 + 1) (digits_at t (i + 1)) (omega arith) (digits_in (i + 1)))
      (λ e. omega arith)

  sign_in : (i : ℕ) → i ≤ length t → Span t i (sign_end t i)
  unfolding sign_end
  sign_in i k = go (eqb (byte_at t i) 45) refl
    where
      go : (x : Bool) → eqb (byte_at t i) 45 ≡ x → Span t i (cond x (i + 1) (cond (eqb (byte_at t i) 43) (i + 1) i))
      go true e = let l = byte_in i 45 (omega arith) e in omega arith
      go false e = one_in i 43 (omega arith) k

  -- an exponent after its letter b
  exp_digits : (i b : ℕ) → b < 256 → eqb (byte_at t i) b ≡ true → In t i (digits_at t (sign_end t (i + 1)))
  exp_digits i b h e =
      let l = byte_in i b h e in
      let s = sign_in (i + 1) (omega arith) in
      from_in i (sign_end t (i + 1) + 1) (digits_at t (sign_end t (i + 1))) (omega arith) (digits_in (sign_end t (i + 1)))

  exp_in : (i : ℕ) → i ≤ length t → In t i (exp_at t i)
  unfolding exp_at
  exp_in i k =
      let all : Result ℕ (Fault ℕ) = digits_at t (sign_end t (i + 1)) in
      either (In t i) (eqb (byte_at t i) 101) all (cond (eqb (byte_at t i) 69) all (Ok i))
      (λ e. exp_digits i 101 (omega arith) e)
      (λ e. either (In t i) (eqb (byte_at t i) 69) all (Ok i) (λ f. exp_digits i 69 (omega arith) f) (λ f. omega arith))

  number_in : (i : ℕ) → i ≤ length t → In t (i + 1) (number_at t i)
  unfolding number_at minus_end
  number_in i k =
      let m : ℕ = minus_end t i in
      let s = one_in i 45 (omega arith) k in
      then_in (i + 1) (exp_at t) (then_at (frac_at t) (int_at t m))
      (then_in (i + 1) (frac_at t) (int_at t m)
      (from_in (i + 1) (m + 1) (int_at t m) (omega arith) (int_in m))
      (λ to h. from_in (i + 1) to (frac_at t to) h.later (frac_in to h.inside)))
      (λ to h. from_in (i + 1) to (exp_at t to) h.later (exp_in to h.inside))

  -- the bytes of a word are bytes
  abbrev Small : List ℕ → Type 0
  Small [] = Prim.Unit {0}
  Small (b ∷ bs) = (b < 256) × Small bs

  word_in : (bs : List ℕ) (i : ℕ) → Small bs → i ≤ length t → In t (i + length bs) (word_at t bs i)
  unfolding word_at
  word_in [] i h k = omega arith
  word_in (b ∷ bs) i h k =
      either (In t (i + suc (length bs))) (eqb (byte_at t i) b) (word_at t bs (i + 1)) (Err (Malformed i))
      (λ e. let l = byte_in i b h.0 e in
      from_in (i + suc (length bs)) (i + 1 + length bs) (word_at t bs (i + 1)) (omega arith) (word_in bs (i + 1) h.1 (omega arith)))
      (λ e. tt)

  -- a literal
  literal_in : (b : ℕ) (bs : List ℕ) (i : ℕ) → Small (b ∷ bs) → i ≤ length t → In t (i + 1) (word_at t (b ∷ bs) i)
  literal_in b bs i h k = from_in (i + 1) (i + suc (length bs)) (word_at t (b ∷ bs) i) (omega arith) (word_in (b ∷ bs) i h k)

  string_in : (i : ℕ) → In t (i + 1) (string_end t (i + 1))
  string_in i = go (string_end t (i + 1)) refl
    where
      go : (s : Result ℕ (Fault ℕ)) → string_end t (i + 1) ≡ s → In t (i + 1) s
      go (Ok to) e = let l = end_inside t (i + 1) to e in omega arith
      go (Err (Malformed p)) e = tt
      go (Err (Forbidden p)) e = tt

  token_in : (kind i : ℕ) → i ≤ length t → In t (i + 1) (token_at t kind i)
  unfolding token_at
  token_in kind i k =
      let P : Result ℕ (Fault ℕ) → Type 0 = In t (i + 1) in
      let w1 : Result ℕ (Fault ℕ) = word_at t (bytes "null") i in
      let w2 : Result ℕ (Fault ℕ) = word_at t (bytes "false") i in
      let w3 : Result ℕ (Fault ℕ) = word_at t (bytes "true") i in
      let number : Result ℕ (Fault ℕ) = number_at t i in
      let string : Result ℕ (Fault ℕ) = string_end t (i + 1) in
      either P (eqb kind 1) w1 (cond (eqb kind 2) w2 (cond (eqb kind 3) w3 (cond (eqb kind 4) number string)))
      (λ e. literal_in 110 (bytes "ull") i (omega arith) k)
      (λ e. either P (eqb kind 2) w2 (cond (eqb kind 3) w3 (cond (eqb kind 4) number string))
      (λ f. literal_in 102 (bytes "alse") i (omega arith) k)
      (λ f. either P (eqb kind 3) w3 (cond (eqb kind 4) number string)
      (λ g. literal_in 116 (bytes "rue") i (omega arith) k)
      (λ g. either P (eqb kind 4) number string (λ h. number_in i k) (λ h. string_in i))))

pub token_span : (t : List ℕ) (kind i to : ℕ) → i ≤ length t → token_at t kind i ≡ Ok to → Span t (i + 1) to
token_span t kind i to k e = subst (In t (i + 1)) e (token_in t kind i k)
