-- What whole reading does with the rest of a number, by the place of its grammar (`number_rest`), goes on with each byte as the automaton does
-- (`number_step`), and is the number itself where it begins (`number_start`). Assumes nothing.
use Rattle.std.specs.Prelude.{Result, Ok, Err}
use Rattle.text.specs.declared.Fault.{Fault}
use Rattle.text.specs.declared.Fault.TheVariants.{Malformed, Forbidden}
use mathlib.Core.Path.{◌≡◌, refl, sym, ◌∙◌}
use mathlib.Core.List.{List}
use mathlib.Core.Bool.{Bool, true, false, cond}
use Prim.Native.Nat.{ℕ, ◌+◌}
use lib.Dec.{eqb}
use Rattle.text.specs.Text.{byte_at}
use Rattle.text.specs.Tokens.{is_digit, digits_end, then_at, digits_at, minus_end, int_at, frac_at, sign_end, exp_at, number_at}
use Rattle.text.proofs.TokenEnds.{run_on_lem, run_end_lem}
use Rattle.wire.specs.declared.Figure.{Figure}
use Rattle.wire.specs.declared.Figure.TheVariants.{Minus, Nought, Whole, Point, Fraction, Exponent, Sign, Digits}
use Rattle.wire.specs.declared.Turn.{Turn}
use Rattle.wire.specs.declared.Turn.TheVariants.{Goes, Ends, Stuck}
use Rattle.wire.specs.Figures.{exp_turn, frac_turn, turn_of, figure_of}

-- the rest of a number from a place on
unfoldable pub number_rest : List ℕ → Figure → ℕ → Result ℕ (Fault ℕ)
number_rest t Minus i = then_at (exp_at t) (then_at (frac_at t) (int_at t i))
number_rest t Nought i = then_at (exp_at t) (frac_at t i)
number_rest t Whole i = then_at (exp_at t) (frac_at t (digits_end t i))
number_rest t Point i = then_at (exp_at t) (digits_at t i)
number_rest t Fraction i = exp_at t (digits_end t i)
number_rest t Exponent i = digits_at t (sign_end t i)
number_rest t Sign i = digits_at t i
number_rest t Digits i = Ok (digits_end t i)

-- what a turn says of it
abbrev pub turned : List ℕ → ℕ → Turn → Result ℕ (Fault ℕ)
turned t i (Goes f) = number_rest t f (i + 1)
turned t i Ends = Ok i
turned t i Stuck = Err (Malformed i)

module _ (t : List ℕ) (i : ℕ) where
  exp_turn_lem : exp_at t i ≡ turned t i (exp_turn (byte_at t i))
  unfolding exp_at exp_turn number_rest
  exp_turn_lem = go (eqb (byte_at t i) 101) (eqb (byte_at t i) 69)
    where
      all : Result ℕ (Fault ℕ)
      all = digits_at t (sign_end t (i + 1))

      go : (x y : Bool) → cond x all (cond y all (Ok i)) ≡ turned t i (cond x (Goes Exponent) (cond y (Goes Exponent) Ends))
      go true y = refl
      go false true = refl
      go false false = refl

  frac_turn_lem : then_at (exp_at t) (frac_at t i) ≡ turned t i (frac_turn (byte_at t i))
  unfolding frac_at frac_turn number_rest
  frac_turn_lem = go (eqb (byte_at t i) 46)
    where
      go : (x : Bool) → then_at (exp_at t) (cond x (digits_at t (i + 1)) (Ok i)) ≡ turned t i (cond x (Goes Point) (exp_turn (byte_at t i)))
      go true = refl
      go false = exp_turn_lem

  -- digits that must stand there, and then what follows them
  digits_turn : (f : Figure) (k : ℕ → Result ℕ (Fault ℕ)) → ((j : ℕ) → k (digits_end t j) ≡ number_rest t f j) → then_at k (digits_at t i) ≡ turned t i (cond (is_digit (byte_at t i)) (Goes f) Stuck)
  unfolding digits_at
  digits_turn f k e = go (is_digit (byte_at t i))
    where
      go : (x : Bool) → then_at k (cond x (Ok (digits_end t (i + 1))) (Err (Malformed i))) ≡ turned t i (cond x (Goes f) Stuck)
      go true = e (i + 1)
      go false = refl

  -- one more digit, or what follows them
  more_turn : (f : Figure) (k : ℕ → Result ℕ (Fault ℕ)) (other : Turn) → ((j : ℕ) → k (digits_end t j) ≡ number_rest t f j) → k i ≡ turned t i other
      → k (digits_end t i) ≡ turned t i (cond (is_digit (byte_at t i)) (Goes f) other)
  more_turn f k other e o = go (is_digit (byte_at t i)) refl
    where
      go : (x : Bool) → is_digit (byte_at t i) ≡ x → k (digits_end t i) ≡ turned t i (cond x (Goes f) other)
      go true h = rw (run_on_lem is_digit t refl i h) (e (i + 1))
      go false h = rw (run_end_lem is_digit t refl i h) o

  int_turn : then_at (exp_at t) (then_at (frac_at t) (int_at t i)) ≡ turned t i (turn_of Minus (byte_at t i))
  unfolding int_at turn_of number_rest
  int_turn = go (eqb (byte_at t i) 48)
    where
      then_then : (k : Result ℕ (Fault ℕ)) → then_at (exp_at t) (then_at (frac_at t) k) ≡ then_at (λ j. then_at (exp_at t) (frac_at t j)) k
      then_then (Ok to) = refl
      then_then (Err (Malformed p)) = refl
      then_then (Err (Forbidden p)) = refl

      go : (x : Bool) → then_at (exp_at t) (then_at (frac_at t) (cond x (Ok (i + 1)) (digits_at t i))) ≡ turned t i (cond x (Goes Nought) (cond (is_digit (byte_at t i)) (Goes Whole) Stuck))
      go true = refl
      go false = then_then (digits_at t i) ∙ digits_turn Whole (λ j. then_at (exp_at t) (frac_at t j)) (λ j. refl)

  sign_turn : digits_at t i ≡ turned t i (cond (is_digit (byte_at t i)) (Goes Digits) Stuck)
  unfolding digits_at number_rest
  sign_turn = go (is_digit (byte_at t i))
    where
      go : (x : Bool) → cond x (Ok (digits_end t (i + 1))) (Err (Malformed i)) ≡ turned t i (cond x (Goes Digits) Stuck)
      go true = refl
      go false = refl

  -- each place of the grammar, one byte further
  pub number_step : (f : Figure) → number_rest t f i ≡ turned t i (turn_of f (byte_at t i))
  unfolding number_rest turn_of sign_end
  number_step Minus = int_turn
  number_step Nought = frac_turn_lem
  number_step Whole = more_turn Whole (λ j. then_at (exp_at t) (frac_at t j)) (frac_turn (byte_at t i)) (λ j. refl) frac_turn_lem
  number_step Point = digits_turn Fraction (exp_at t) (λ j. refl)
  number_step Fraction = more_turn Fraction (exp_at t) (exp_turn (byte_at t i)) (λ j. refl) exp_turn_lem
  number_step Exponent = go (eqb (byte_at t i) 45) (eqb (byte_at t i) 43)
    where
      go : (x y : Bool) → digits_at t (cond x (i + 1) (cond y (i + 1) i)) ≡ turned t i (cond x (Goes Sign) (cond y (Goes Sign) (cond (is_digit (byte_at t i)) (Goes Digits) Stuck)))
      go true y = refl
      go false true = refl
      go false false = sign_turn
  number_step Sign = sign_turn
  number_step Digits = more_turn Digits (λ j. Ok j) Ends (λ j. refl) refl

  -- where a number begins: a minus or a digit
  pub number_start : cond (is_digit (byte_at t i)) true (eqb (byte_at t i) 45) ≡ true → number_at t i ≡ number_rest t (figure_of (byte_at t i)) (i + 1)
  unfolding number_at minus_end figure_of turn_of number_rest
  number_start h = go (eqb (byte_at t i) 45) refl
    where
      -- a digit, the first of them
      first : (y : Bool) → eqb (byte_at t i) 48 ≡ y → is_digit (byte_at t i) ≡ true → turned t i (turn_of Minus (byte_at t i)) ≡ number_rest t (cond y Nought Whole) (i + 1)
      first true e d = rw e
      first false e d = rw (e, d)

      digit : (x y : Bool) → y ≡ false → cond x true y ≡ true → x ≡ true
      digit true y e k = refl
      digit false true e k = sym e
      digit false false e k = k

      go : (x : Bool) → eqb (byte_at t i) 45 ≡ x → then_at (exp_at t) (then_at (frac_at t) (int_at t (cond x (i + 1) i))) ≡ number_rest t (cond x Minus (cond (eqb (byte_at t i) 48) Nought Whole)) (i + 1)
      go true e = refl
      go false e = int_turn ∙ first (eqb (byte_at t i) 48) refl (digit (is_digit (byte_at t i)) (eqb (byte_at t i) 45) e h)
