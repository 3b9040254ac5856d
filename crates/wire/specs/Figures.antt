-- Inside a number (RFC 8259, section 6): what a byte does at each of the eight places of its grammar. Assumes nothing: these are definitions.
use Rattle.std.specs.Prelude.{ℕ, cond, eqb}
use Rattle.text.specs.Tokens.{is_digit}
use Rattle.wire.specs.declared.Figure.{Figure}
use Rattle.wire.specs.declared.Figure.TheVariants.{Minus, Nought, Whole, Point, Fraction, Exponent, Sign, Digits}
use Rattle.wire.specs.declared.Turn.{Turn}
use Rattle.wire.specs.declared.Turn.TheVariants.{Goes, Ends, Stuck}

-- where an exponent may begin
unfoldable pub exp_turn : ℕ → Turn
exp_turn b = cond (eqb b 101) (Goes Exponent) (cond (eqb b 69) (Goes Exponent) Ends)

-- where a fraction or an exponent may begin
unfoldable pub frac_turn : ℕ → Turn
frac_turn b = cond (eqb b 46) (Goes Point) (exp_turn b)

-- what a byte does, 256 at the end of the text
unfoldable pub turn_of : Figure → ℕ → Turn
turn_of Minus b = cond (eqb b 48) (Goes Nought) (cond (is_digit b) (Goes Whole) Stuck)
turn_of Nought b = frac_turn b
turn_of Whole b = cond (is_digit b) (Goes Whole) (frac_turn b)
turn_of Point b = cond (is_digit b) (Goes Fraction) Stuck
turn_of Fraction b = cond (is_digit b) (Goes Fraction) (exp_turn b)
turn_of Exponent b = cond (eqb b 45) (Goes Sign) (cond (eqb b 43) (Goes Sign) (cond (is_digit b) (Goes Digits) Stuck))
turn_of Sign b = cond (is_digit b) (Goes Digits) Stuck
turn_of Digits b = cond (is_digit b) (Goes Digits) Ends

-- after the first byte of a number
unfoldable pub figure_of : ℕ → Figure
figure_of b = cond (eqb b 45) Minus (cond (eqb b 48) Nought Whole)
