-- UTCDateTime: RFC 3339 as docs/RULES.md, 5.3, narrows it, over decoded bytes: 2010-10-10T10:10:10Z.
-- Assumes nothing: these are definitions.
use Rattle.std.specs.Prelude.{ℕ, ◌+◌, ◌-◌, ◌*◌, ◌%◌, List, [], ◌∷◌, Bool, true, false, cond, ◌&&◌, get_or, drop, ltb, leb, eqb}
use Rattle.text.specs.Text.{byte_at, bytes}
use Rattle.text.specs.Tokens.{is_digit}

-- ---- days

-- docs/RULES.md, 5.3: the twelve month lengths stand in a table
unfoldable pub month_lengths : List ℕ
month_lengths = 31 ∷ 28 ∷ 31 ∷ 30 ∷ 31 ∷ 30 ∷ 31 ∷ 31 ∷ 30 ∷ 31 ∷ 30 ∷ 31 ∷ []

-- the Gregorian rule: 4 divides the year, and not 100, or 400
unfoldable pub is_leap : ℕ → Bool
is_leap y = cond (eqb (y % 4) 0) (cond (eqb (y % 100) 0) (eqb (y % 400) 0) true) false

-- the days of a month, 0 where there is no such month; February has 29 in leap years
unfoldable pub days_of : (year month : ℕ) → ℕ
days_of y m =
    cond (ltb m 1) 0
    (cond (ltb 12 m) 0
    (cond (eqb m 2) (cond (is_leap y) 29 28) (get_or month_lengths (m - 1) 0)))

-- the month has such a day
unfoldable pub is_day : (year month day : ℕ) → Bool
is_day y m d = cond (ltb d 1) false (leb d (days_of y m))

-- ---- the shape

-- the bytes begin as the pattern says, where d (100) is any digit
unfoldable pub shaped : (pattern bytes : List ℕ) → Bool
shaped [] bs = true
shaped (p ∷ ps) [] = false
shaped (p ∷ ps) (b ∷ bs) =
    let more = shaped ps bs in
    cond (cond (eqb p 100) (is_digit b) (eqb p b)) more false

-- two digits as a number
abbrev pub two_at : List ℕ → ℕ → ℕ
two_at t i = 10 * (byte_at t i - 48) + (byte_at t (i + 1) - 48)

-- the digits of a fraction and Z after them; a fraction doesn't end in 0. `last` is the byte before, 48 at the start, so that there is a digit
unfoldable pub fraction_ends : (last : ℕ) → List ℕ → Bool
fraction_ends last [] = false
fraction_ends last (b ∷ []) = cond (eqb b 90) (cond (eqb last 48) false true) false
fraction_ends last (b ∷ c ∷ bs) = let more = fraction_ends b (c ∷ bs) in cond (is_digit b) more false

-- after the seconds: Z, or a fraction and Z
unfoldable pub ends : List ℕ → Bool
ends [] = false
ends (b ∷ []) = eqb b 90
ends (b ∷ c ∷ bs) = let fraction = fraction_ends 48 (c ∷ bs) in cond (eqb b 46) fraction false

-- hour 00 to 23, minute and second 00 to 59 (house ruling on leap seconds)
unfoldable pub in_range : List ℕ → Bool
in_range t =
    is_day (100 * two_at t 0 + two_at t 2) (two_at t 5) (two_at t 8)
    && ltb (two_at t 11) 24
    && ltb (two_at t 14) 60
    && ltb (two_at t 17) 60

-- a UTCDateTime: its shape, its numbers, and what follows the seconds
unfoldable pub is_time : List ℕ → Bool
is_time t =
    let rest = in_range t && ends (drop 19 t) in
    cond (shaped (bytes "dddd-dd-ddTdd:dd:dd") t) rest false
