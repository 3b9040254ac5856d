-- Ids and unsigned integers (docs/RULES.md, 5.3).
-- Assumes nothing: these are definitions.
use Rattle.std.specs.Prelude.{ℕ, ◌+◌, ◌-◌, ◌*◌, List, [], ◌∷◌, Bool, true, false, cond, length, ltb, leb, eqb}
use Rattle.laws.specs.Tests.{every}
use Rattle.text.specs.Tokens.{is_digit}

-- A-Z a-z 0-9 - _
unfoldable pub id_byte : ℕ → Bool
id_byte b =
    cond (eqb b 45) true
    (cond (eqb b 95) true
    (cond (is_digit b) true
    (cond (ltb b 65) false
    (cond (ltb b 91) true
    (cond (ltb b 97) false (ltb b 123))))))

-- Id: 1 to 255 such bytes, decoded
unfoldable pub is_id : List ℕ → Bool
is_id n = let all = every id_byte n in cond (ltb (length n) 1) false (cond (ltb 255 (length n)) false all)

-- the value of digits, after those whose value is v
unfoldable pub value_from : (v : ℕ) → List ℕ → ℕ
value_from v [] = v
value_from v (b ∷ bs) = value_from (10 * v + (b - 48)) bs

-- UnsignedInt, with bounds of its own: digits only, no sign, fraction or exponent (house ruling), and no more than 2^53 - 1.
-- Reading has seen to it that there is a digit and no leading zero
unfoldable pub is_count : (low high : ℕ) → (token : List ℕ) → Bool
is_count low high token =
    let v = value_from 0 token in
    let in_bounds = cond (ltb 9007199254740991 v) false (cond (ltb v low) false (leb v high)) in
    cond (every is_digit token) in_bounds false
