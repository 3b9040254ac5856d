-- The test on times decides what specs/SimpleValues.antt says:
--     leap-test     leap years
--     month-days    the table of month lengths, with February: its rule, for all twelve
--     day-test      days of the Gregorian calendar
--     time-test     UTCDateTime
-- Assumes nothing.
use Prim.Native.Nat.{ℕ, zero, suc, ◌+◌, ◌-◌, ◌*◌, ◌%◌, ◌/◌, ◌≤◌, ◌<◌}
use mathlib.Core.Path.{◌≡◌, refl, sym, ap, ap₂, subst, subst₂}
use mathlib.Core.Bool.{Bool, true, false, cond, ◌&&◌, true≢false}
use mathlib.Core.List.{List, [], ◌∷◌, ◌++◌}
use mathlib.Core.Logic.{◌⊎◌, inl, inr, ⊎_elim}
use native.Mathlib.Omega.{arith}
use lib.ListN.{length, get_or, drop}
use lib.Dec.{eqb}
use Rattle.laws.specs.Each.{Each, none, more}
use Rattle.laws.proofs.Decides.{Decides, holds, fails, told, itself, test_true, test_false, swap, equal, below, upto, both, lets, bars, asks}
use Rattle.contact.specs.Dates.{month_lengths, is_leap, days_of, is_day, shaped, fraction_ends, two_at, ends, in_range, is_time}
use Rattle.text.specs.Text.{bytes}
use Rattle.text.specs.Tokens.{is_digit}
use Rattle.contact.proofs.Judging.SimpleValues.{digit_test, digit_of_lem, digit_byte}
use Rattle.contact.specs.SimpleValues.{DigitByte, Leap, fourth, century, MonthDays, january, february, leap_february, march, april, may, june, july, august, september, october, november, december, Day, digit, Two, two, Four, four, Fraction, fraction, Zone, utc, after, UTCDateTime, moment}

-- ---- leap years

leap_by : (y : ℕ) {b : Bool} → Decides (y % 100 ≡ 0) b → (y % 4 ≡ 0) × (y % 100 ≡ 0 → y % 400 ≡ 0) → Leap y
leap_by y (holds c) h = let q : y % 400 ≡ 0 = h.1 c in century {y = y} (record { times = y / 400; is = omega arith })
leap_by y (fails f) h = fourth {y = y} (record { times = y / 4; is = omega arith }) (λ d. f (omega arith))

by_leap : {y : ℕ} → Leap y → (y % 4 ≡ 0) × (y % 100 ≡ 0 → y % 400 ≡ 0)
by_leap {y} (fourth d n) = (omega arith, λ c. absurd (n (record { times = y / 100; is = omega arith })))
by_leap (century d) = (omega arith, λ c. omega arith)

pub leap_test : (y : ℕ) → Decides (Leap y) (is_leap y)
unfolding is_leap
leap_test y =
    swap (leap_by y (equal (y % 100) 0)) by_leap
    (lets (equal (y % 4) 0) (asks (equal (y % 100) 0) (equal (y % 400) 0)))

-- ---- the table of month lengths

-- lengths of months, one after the other from m on; nothing is said of February
data Lengths (y : ℕ) : (m : ℕ) → List ℕ → Type 0 where
  end : {m : ℕ} → Lengths y m []
  month : {m n : ℕ} {ns : List ℕ} → (¬ (m ≡ 2) → MonthDays y m n) → Lengths y (suc m) ns → Lengths y m (n ∷ ns)

-- the table's rule: from January on, each month but February has the days that the table says
table_rule : (y : ℕ) → Lengths y 1 month_lengths
unfolding month_lengths
table_rule y =
    month (λ _. january)
    (month (λ f. absurd (f refl))
    (month (λ _. march)
    (month (λ _. april)
    (month (λ _. may)
    (month (λ _. june)
    (month (λ _. july)
    (month (λ _. august)
    (month (λ _. september)
    (month (λ _. october)
    (month (λ _. november)
    (month (λ _. december) end)))))))))))

length_at : {y m : ℕ} {ns : List ℕ} → Lengths y m ns → (i : ℕ) → i < length ns → ¬ (m + i ≡ 2) → MonthDays y (m + i) (get_or ns i 0)
length_at end i h f = absurd (omega arith)
length_at {y} {m} (month {n = n} d ds) zero h f =
    let e : m ≡ m + 0 = omega arith in subst (λ (k : ℕ). MonthDays y k n) e (d (λ q. f (omega arith)))
length_at {y} {m} (month {ns = ns} d ds) (suc i) h f =
    let e : suc m + i ≡ m + suc i = omega arith in
    subst (λ (k : ℕ). MonthDays y k (get_or ns i 0)) e (length_at ds i (omega arith) (λ q. f (omega arith)))

february_days : (y : ℕ) {b : Bool} → Decides (Leap y) b → MonthDays y 2 (cond b 29 28)
february_days y (holds l) = leap_february l
february_days y (fails f) = february f

month_by : (y m : ℕ) {a b c : Bool} → Decides (m < 1) a → Decides (12 < m) b → Decides (m ≡ 2) c
    → 1 ≤ cond a 0 (cond b 0 (cond c (cond (is_leap y) 29 28) (get_or month_lengths (m - 1) 0)))
    → MonthDays y m (cond a 0 (cond b 0 (cond c (cond (is_leap y) 29 28) (get_or month_lengths (m - 1) 0))))
unfolding month_lengths
month_by y m (holds p) b c h = absurd (omega arith)
month_by y m (fails p) (holds q) c h = absurd (omega arith)
month_by y m (fails p) (fails q) (holds r) h = subst (λ (k : ℕ). MonthDays y k (cond (is_leap y) 29 28)) (sym r) (february_days y (leap_test y))
month_by y m (fails p) (fails q) (fails r) h =
    let e : 1 + (m - 1) ≡ m = omega arith in
    subst (λ (k : ℕ). MonthDays y k (get_or month_lengths (m - 1) 0)) e (length_at (table_rule y) (m - 1) (omega arith) (λ k. r (omega arith)))

-- a month that has days has those of the calendar
pub month_days : (y m : ℕ) → 1 ≤ days_of y m → MonthDays y m (days_of y m)
unfolding days_of
month_days y m h = month_by y m (below m 1) (below 12 m) (equal m 2) h

days_of_lem : {y m n : ℕ} → MonthDays y m n → days_of y m ≡ n
unfolding days_of month_lengths
days_of_lem january = refl
days_of_lem {y} (february f) = rw (test_false (leap_test y) f)
days_of_lem {y} (leap_february l) = rw (test_true (leap_test y) l)
days_of_lem march = refl
days_of_lem april = refl
days_of_lem may = refl
days_of_lem june = refl
days_of_lem july = refl
days_of_lem august = refl
days_of_lem september = refl
days_of_lem october = refl
days_of_lem november = refl
days_of_lem december = refl

pub day_test : (y m d : ℕ) → Decides (Day y m d) (is_day y m d)
unfolding is_day
day_test y m d =
    swap
    (λ h. record { length = days_of y m; month_has = month_days y m (omega arith); from = omega arith; upto = h.1 })
    (λ r. ((λ k. omega arith), omega (arith, days_of_lem r.month_has)))
    (bars (below d 1) (upto d (days_of y m)))

-- ---- what follows the seconds

-- digits and then Z, where the last digit, or the byte before if there is none, isn't 0
data Ended : (last : ℕ) → (digits : List ℕ) → Type 0 where
  here : {l : ℕ} → ¬ (l ≡ 48) → Ended l []
  on : {l d : ℕ} {ds : List ℕ} → DigitByte d → Ended d ds → Ended l (d ∷ ds)

record Ending (last : ℕ) (bs : List ℕ) : Type 0 where
  digits : List ℕ
  is : bs ≡ digits ++ 90 ∷ []
  ended : Ended last digits

fraction_told : (l : ℕ) (bs : List ℕ) → fraction_ends l bs ≡ true → Ending l bs
unfolding fraction_ends
fraction_told l [] e = absurd (true≢false (sym e))
fraction_told l (b ∷ []) e =
    let h = told (lets (equal b 90) (bars (equal l 48) (itself true))) e in record { digits = []; is = rw h.0; ended = here h.1.0 }
fraction_told l (b ∷ c ∷ bs) e =
    let h = told (lets (digit_test b) (itself (fraction_ends b (c ∷ bs)))) e in
    let r = fraction_told b (c ∷ bs) h.1 in
    record { digits = b ∷ r.digits; is = ap (b ∷◌) r.is; ended = on h.0 r.ended }

fraction_true : {l : ℕ} {ds : List ℕ} → Ended l ds → fraction_ends l (ds ++ 90 ∷ []) ≡ true
unfolding fraction_ends
fraction_true {l} (here f) = rw (test_false (equal l 48) f)
fraction_true (on {d = d} r (here f)) = rw (test_true (digit_test d) r) (fraction_true (here f))
fraction_true (on {d = d} r (on q e)) = rw (test_true (digit_test d) r) (fraction_true (on q e))

-- digits that end so are a fraction; and a fraction ends so, whatever stands before it
longer : {d : ℕ} {ds : List ℕ} → DigitByte d → (ds ≡ [] × ¬ (d ≡ 48)) ⊎ Fraction ds → Fraction (d ∷ ds)
longer {d} r (inl h) = rw h.0 (fraction none (digit_of_lem d r) (positive d r h.1))
  where
    positive : (d : ℕ) → DigitByte d → ¬ (d ≡ 48) → 1 ≤ d - 48
    positive d r f = omega arith
longer r (inr (fraction rs b k)) = fraction (more r rs) b k

ended_fraction : {l : ℕ} {ds : List ℕ} → Ended l ds → (ds ≡ [] × ¬ (l ≡ 48)) ⊎ Fraction ds
ended_fraction (here f) = inl (refl, f)
ended_fraction (on r e) = inr (longer r (ended_fraction e))

digits_ended : {l v : ℕ} {ds : List ℕ} → Each DigitByte ds → v < 10 → 1 ≤ v → Ended l (ds ++ (48 + v) ∷ [])
digits_ended {v = v} none h k = on (digit_byte (digit h)) (here (λ (e : 48 + v ≡ 48). omega arith))
digits_ended (more r rs) h k = on r (digits_ended rs h k)

fraction_ended : {l : ℕ} {ds : List ℕ} → Fraction ds → Ended l ds
fraction_ended (fraction rs (digit h) k) = digits_ended rs h k

zone_told : (bs : List ℕ) → ends bs ≡ true → Zone bs
unfolding ends
zone_told [] e = absurd (true≢false (sym e))
zone_told (b ∷ []) e = rw (told (equal b 90) e) utc
zone_told (b ∷ c ∷ bs) e =
    let h = told (lets (equal b 46) (itself (fraction_ends 48 (c ∷ bs)))) e in
    let r = fraction_told 48 (c ∷ bs) h.1 in
    rw (h.0, r.is) (after (⊎_elim (λ (x : (r.digits ≡ []) × ¬ (48 ≡ 48)). absurd (x.1 refl)) (λ x. x) (ended_fraction r.ended)))

zone_true : {bs : List ℕ} → Zone bs → ends bs ≡ true
unfolding ends
zone_true utc = refl
zone_true (after f) = point_true (fraction_ended f)
  where
    point_true : {ds : List ℕ} → Ended 48 ds → ends (46 ∷ ds ++ 90 ∷ []) ≡ true
    point_true (here f) = absurd (f refl)
    point_true (on r e) = fraction_true (on r e)

zone_test : (bs : List ℕ) → Decides (Zone bs) (ends bs)
zone_test bs = swap (zone_told bs) zone_true (itself (ends bs))

-- ---- the whole

-- the two digits of a number below 100, and what follows
abbrev pair : ℕ → List ℕ → List ℕ
pair v rest = (48 + v / 10) ∷ (48 + v % 10) ∷ rest

-- what has the shape of two digits, or of two digits and a mark, at its start begins so
two_on : (G : List ℕ → Type 0) (ps bs : List ℕ) → ((v : ℕ) (rest : List ℕ) → v < 100 → shaped ps rest ≡ true → G (pair v rest))
    → shaped (100 ∷ 100 ∷ ps) bs ≡ true → G bs
unfolding shaped
two_on G ps [] k e = absurd (true≢false (sym e))
two_on G ps (a ∷ []) k e = let h = told (lets (digit_test a) (itself false)) e in absurd (true≢false (sym h.1))
two_on G ps (a ∷ b ∷ bs) k e =
    let h = told (lets (digit_test a) (lets (digit_test b) (itself (shaped ps bs)))) e in
    let v : ℕ = 10 * (a - 48) + (b - 48) in
    let first : 48 + v / 10 ≡ a = omega arith in
    let second : 48 + v % 10 ≡ b = omega arith in
    subst₂ (λ (c d : ℕ). G (c ∷ d ∷ bs)) first second (k v bs (omega arith) h.1.1)

mark_on_lem : (G : List ℕ → Type 0) (p : ℕ) (ps bs : List ℕ) → eqb p 100 ≡ false → ((rest : List ℕ) → shaped ps rest ≡ true → G (p ∷ rest))
    → shaped (p ∷ ps) bs ≡ true → G bs
unfolding shaped
mark_on_lem G p ps [] n k e = absurd (true≢false (sym e))
mark_on_lem G p ps (b ∷ bs) n k e =
    let h = told (lets (equal p b) (itself (shaped ps bs))) (rw n at e) in subst (λ (c : ℕ). G (c ∷ bs)) h.0 (k bs h.1)

pair_on : (G : List ℕ → Type 0) (p : ℕ) (ps bs : List ℕ) → eqb p 100 ≡ false
    → ((v : ℕ) (rest : List ℕ) → v < 100 → shaped ps rest ≡ true → G (pair v (p ∷ rest)))
    → shaped (100 ∷ 100 ∷ p ∷ ps) bs ≡ true → G bs
pair_on G p ps bs n k = two_on G (p ∷ ps) bs (λ v r h. mark_on_lem (λ (w : List ℕ). G (pair v w)) p ps r n (λ rest s. k v rest h s))

-- numbers that a time of day on a day may have
record Timely (year month day hour minute second : ℕ) : Type 0 where
  on : Day year month day
  hours : hour ≤ 23
  minutes : minute ≤ 59
  seconds : second ≤ 59

range_test : (t : List ℕ)
    → Decides (Timely (100 * two_at t 0 + two_at t 2) (two_at t 5) (two_at t 8) (two_at t 11) (two_at t 14) (two_at t 17)) (in_range t)
unfolding in_range
range_test t =
    swap
    (λ h. record { on = h.0.0.0; hours = omega arith; minutes = omega arith; seconds = omega arith })
    (λ r. (((r.on, omega arith), omega arith), omega arith))
    (both
    (both
    (both (day_test (100 * two_at t 0 + two_at t 2) (two_at t 5) (two_at t 8)) (below (two_at t 11) 24))
    (below (two_at t 14) 60))
    (below (two_at t 17) 60))

-- the bytes of six numbers, the year's in two parts, and what follows
abbrev stamp : (century year month day hour minute second : ℕ) → (zone : List ℕ) → List ℕ
stamp c y mo d h mi s zone = pair c (pair y (45 ∷ pair mo (45 ∷ pair d (84 ∷ pair h (58 ∷ pair mi (58 ∷ pair s zone))))))

abbrev shape : List ℕ
shape = bytes "dddd-dd-ddTdd:dd:dd"

value_of : (v : ℕ) → 10 * (48 + v / 10 - 48) + (48 + v % 10 - 48) ≡ v
value_of v = omega arith

digit_true : (v : ℕ) → v < 10 → is_digit (48 + v) ≡ true
digit_true v h = test_true (digit_test (48 + v)) (digit_byte (digit h))

tens_true : (v : ℕ) → v < 100 → is_digit (48 + v / 10) ≡ true
tens_true v h = digit_true (v / 10) (omega arith)

ones_true : (v : ℕ) → is_digit (48 + v % 10) ≡ true
ones_true v = digit_true (v % 10) (omega arith)

module _ (c y mo d h mi s : ℕ) (zone : List ℕ) where
  -- what the test reads in such bytes
  stamp_test : Decides (Timely (100 * c + y) mo d h mi s × Zone zone)
      (in_range (stamp c y mo d h mi s zone) && ends (drop 19 (stamp c y mo d h mi s zone)))
  stamp_test = both (simp value_of at (range_test (stamp c y mo d h mi s zone))) (zone_test zone)

  shape_true : c < 100 → y < 100 → mo < 100 → d < 100 → h < 100 → mi < 100 → s < 100 → shaped shape (stamp c y mo d h mi s zone) ≡ true
  unfolding shaped
  shape_true hc hy hm hd hh hn hs = simp (tens_true, ones_true)

-- the rest of the test says that the bytes are a time
abbrev Told : List ℕ → Type 0
Told t = (in_range t && ends (drop 19 t)) ≡ true → UTCDateTime t

two_of : (v : ℕ) → v < 100 → Two (pair v []) v
two_of v h =
    let e : 10 * (v / 10) + v % 10 ≡ v = omega arith in
    subst (λ (n : ℕ). Two (pair v []) n) e (two (digit (omega arith)) (digit (omega arith)))

four_of : (c y : ℕ) → c < 100 → y < 100 → Four (pair c (pair y [])) (100 * c + y)
four_of c y h k =
    let e : 1000 * (c / 10) + 100 * (c % 10) + 10 * (y / 10) + y % 10 ≡ 100 * c + y = omega arith in
    subst (λ (n : ℕ). Four (pair c (pair y [])) n) e
    (four (digit (omega arith)) (digit (omega arith)) (digit (omega arith)) (digit (omega arith)))

time_told : (t : List ℕ) → shaped shape t ≡ true → Told t
time_told t =
    two_on Told (bytes "dd-dd-ddTdd:dd:dd") t (λ c t1 hc.
    pair_on (λ (w : List ℕ). Told (pair c w)) 45 (bytes "dd-ddTdd:dd:dd") t1 refl (λ y t2 hy.
    pair_on (λ (w : List ℕ). Told (pair c (pair y (45 ∷ w)))) 45 (bytes "ddTdd:dd:dd") t2 refl (λ mo t3 hm.
    pair_on (λ (w : List ℕ). Told (pair c (pair y (45 ∷ pair mo (45 ∷ w))))) 84 (bytes "dd:dd:dd") t3 refl (λ d t4 hd.
    pair_on (λ (w : List ℕ). Told (pair c (pair y (45 ∷ pair mo (45 ∷ pair d (84 ∷ w)))))) 58 (bytes "dd:dd") t4 refl (λ h t5 hh.
    pair_on (λ (w : List ℕ). Told (pair c (pair y (45 ∷ pair mo (45 ∷ pair d (84 ∷ pair h (58 ∷ w))))))) 58 (bytes "dd") t5 refl (λ mi t6 hn.
    two_on (λ (w : List ℕ). Told (pair c (pair y (45 ∷ pair mo (45 ∷ pair d (84 ∷ pair h (58 ∷ pair mi (58 ∷ w)))))))) [] t6 (λ s zone hs _ ok.
    let x = told (stamp_test c y mo d h mi s zone) ok in
    moment (four_of c y hc hy) (two_of mo hm) (two_of d hd) (two_of h hh) (two_of mi hn) (two_of s hs) x.1 x.0.on x.0.hours x.0.minutes
    x.0.seconds)))))))

-- two digits are those of a number below 100, and four those of two such numbers
two_is : {bs : List ℕ} {v : ℕ} → Two bs v → (bs ≡ pair v []) × (v < 100)
two_is (two {x = x} {y = y} (digit h) (digit k)) =
    let tens : x ≡ (10 * x + y) / 10 = omega arith in
    let ones : y ≡ (10 * x + y) % 10 = omega arith in
    (ap₂ (λ (a b : ℕ). (48 + a) ∷ (48 + b) ∷ []) tens ones, omega arith)

record Halves (bs : List ℕ) (v : ℕ) : Type 0 where
  century : ℕ
  year : ℕ
  is : bs ≡ pair century (pair year [])
  number : v ≡ 100 * century + year
  low : century < 100
  high : year < 100

four_is : {bs : List ℕ} {v : ℕ} → Four bs v → Halves bs v
four_is (four {w = w} {x = x} {y = y} {z = z} h i j k) =
    let first = two_is (two h i) in
    let second = two_is (two j k) in
    record {
      century = 10 * w + x;
      year = 10 * y + z;
      is = ap₂ ◌++◌ first.0 second.0;
      number = omega arith;
      low = first.1;
      high = second.1;
    }

time_true : {t : List ℕ} → UTCDateTime t → is_time t ≡ true
unfolding is_time
time_true (moment {zone = zone} {month = mo} {day = d} {hour = h} {minute = mi} {second = s} yyyy mm dd hh nn ss z real hours minutes seconds) =
    let f = four_is yyyy in
    let timely : Timely (100 * f.century + f.year) mo d h mi s = record { on = rw f.number at real; hours = hours; minutes = minutes; seconds = seconds } in
    rw (f.is, (two_is mm).0, (two_is dd).0, (two_is hh).0, (two_is nn).0, (two_is ss).0)
    (test_true
    (lets (itself (shaped shape (stamp f.century f.year mo d h mi s zone))) (stamp_test f.century f.year mo d h mi s zone)) (
      shape_true f.century f.year mo d h mi s zone f.low f.high (two_is mm).1 (two_is dd).1 (two_is hh).1 (two_is nn).1 (two_is ss).1,
      (timely, z),
    ))

time_by : (t : List ℕ) → is_time t ≡ true → UTCDateTime t
unfolding is_time
time_by t e = let h = told (lets (itself (shaped shape t)) (itself (in_range t && ends (drop 19 t)))) e in time_told t h.0 h.1

pub time_test : (t : List ℕ) → Decides (UTCDateTime t) (is_time t)
time_test t = swap (time_by t) time_true (itself (is_time t))
