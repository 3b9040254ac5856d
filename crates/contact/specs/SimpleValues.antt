-- The values that hold no others, by what they are and not by a test: Ids, unsigned integers, and times (docs/RULES.md, 5.3). The tests of Values.antt and
-- Dates.antt tell just these (specs/Judging.antt).
-- Assumes nothing: these are definitions.
use Rattle.std.specs.Prelude.{ℕ, ◌+◌, ◌*◌, ◌≤◌, ◌<◌, List, [], ◌∷◌, ◌++◌, length}
use Prim.Native.Char.{code}
use Rattle.laws.specs.Each.{Each}
use Rattle.laws.specs.Divides.{Divides}
use Rattle.text.specs.Text.{bytes}
use Rattle.text.specs.Abnf.{Between}

-- a digit as it is written
abbrev pub DigitByte : ℕ → Type 0
DigitByte = Between (code "0") (code "9")

-- ---- Id (RFC 9553, 1.4.1): 1 to 255 bytes of A-Z a-z 0-9 - _

-- a byte that an Id may have
pub data IdByte : ℕ → Type 0 where
  capital : {b : ℕ} → Between (code "A") (code "Z") b → IdByte b
  small : {b : ℕ} → Between (code "a") (code "z") b → IdByte b
  digit : {b : ℕ} → DigitByte b → IdByte b
  hyphen : IdByte (code "-")
  underscore : IdByte (code "_")

-- 1 to 255 such bytes
pub record Id (bytes : List ℕ) : Type 0 where
  pub some : 1 ≤ length bytes
  pub few : length bytes ≤ 255
  pub each : Each IdByte bytes

-- ---- UnsignedInt (RFC 9553, 1.4.2): digits only (house ruling), and a number of at most 2^53 - 1

-- a digit and its value
pub data DigitValue : (byte value : ℕ) → Type 0 where
  digit : {v : ℕ} → v < 10 → DigitValue (code "0" + v) v

-- Digits and the number that they denote, digit by digit. No digit denotes 0; that never meets a token of a text, since a JSON number has a digit
-- (RFC 8259: int = zero / ( digit1-9 *DIGIT )), and no type of the table has 0 in its bounds.
pub data Denotes : (digits : List ℕ) → (number : ℕ) → Type 0 where
  none : Denotes [] 0
  more : {ds : List ℕ} {v b d : ℕ} → Denotes ds v → DigitValue b d → Denotes (ds ++ b ∷ []) (10 * v + d)

-- an UnsignedInt from low to high
pub record UnsignedInt (low high : ℕ) (token : List ℕ) : Type 0 where
  pub number : ℕ
  pub denoted : Denotes token number
  pub unsigned : number ≤ 9007199254740991
  pub from : low ≤ number
  pub upto : number ≤ high

-- ---- days of the Gregorian calendar

-- every fourth year, but of the full centuries only every fourth
pub data Leap : (year : ℕ) → Type 0 where
  fourth : {y : ℕ} → Divides 4 y → ¬ Divides 100 y → Leap y
  century : {y : ℕ} → Divides 400 y → Leap y

-- the months of a year and how many days they have
pub data MonthDays (year : ℕ) : (month days : ℕ) → Type 0 where
  january : MonthDays year 1 31
  february : ¬ Leap year → MonthDays year 2 28
  leap_february : Leap year → MonthDays year 2 29
  march : MonthDays year 3 31
  april : MonthDays year 4 30
  may : MonthDays year 5 31
  june : MonthDays year 6 30
  july : MonthDays year 7 31
  august : MonthDays year 8 31
  september : MonthDays year 9 30
  october : MonthDays year 10 31
  november : MonthDays year 11 30
  december : MonthDays year 12 31

-- a day that its month has in its year
pub record Day (year month day : ℕ) : Type 0 where
  pub length : ℕ
  pub month_has : MonthDays year month length
  pub from : 1 ≤ day
  pub upto : day ≤ length

-- ---- UTCDateTime (RFC 9553, 1.4.5; RFC 3339): as 2010-10-10T10:10:10Z

-- two digits and their number
pub data Two : (digits : List ℕ) → (number : ℕ) → Type 0 where
  two : {a b x y : ℕ} → DigitValue a x → DigitValue b y → Two (a ∷ b ∷ []) (10 * x + y)

-- four digits and their number
pub data Four : (digits : List ℕ) → (number : ℕ) → Type 0 where
  four : {a b c d w x y z : ℕ} → DigitValue a w → DigitValue b x → DigitValue c y → DigitValue d z
      → Four (a ∷ b ∷ c ∷ d ∷ []) (1000 * w + 100 * x + 10 * y + z)

-- a fraction of a second: its last digit isn't 0, so there is one
pub data Fraction : (digits : List ℕ) → Type 0 where
  fraction : {ds : List ℕ} {b v : ℕ} → Each DigitByte ds → DigitValue b v → 1 ≤ v → Fraction (ds ++ b ∷ [])

-- what follows the seconds: Z, or a point, a fraction and Z
pub data Zone : List ℕ → Type 0 where
  utc : Zone (bytes "Z")
  after : {ds : List ℕ} → Fraction ds → Zone (bytes "." ++ ds ++ bytes "Z")

-- six numbers and perhaps a fraction; hour 00 to 23, minute and second 00 to 59 (house ruling on leap seconds)
pub data UTCDateTime : List ℕ → Type 0 where
  moment : {yyyy mm dd hh nn ss zone : List ℕ} {year month day hour minute second : ℕ}
      → Four yyyy year → Two mm month → Two dd day → Two hh hour → Two nn minute → Two ss second → Zone zone
      → Day year month day → hour ≤ 23 → minute ≤ 59 → second ≤ 59
      → UTCDateTime (yyyy ++ bytes "-" ++ mm ++ bytes "-" ++ dd ++ bytes "T" ++ hh ++ bytes ":" ++ nn ++ bytes ":" ++ ss ++ zone)
