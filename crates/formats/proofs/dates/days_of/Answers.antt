-- `formats::dates::days_of` meets its contract: the table is the definition's. Assumes nothing.
use Prim.Native.Nat.{ℕ, ◌-◌, ◌≤◌}
use mathlib.Core.Path.{◌≡◌, sym, ◌∙◌}
use mathlib.Core.Bool.{true, false, cond}
use native.Mathlib.Decide.{ℕ_discrete}
use native.Mathlib.Omega.{arith}
use lib.Dec.{eqb}
use lib.ListN.{get_or}
use borrow.Author.Tests.{ne_eqb, le-ltb}
use Rattle.laws.proofs.Picks.{picks}
use Rattle.contact.specs.Dates.{is_leap, month_lengths, days_of}
use Rattle.formats.proofs.dates.days_of.Goals as goal

in_year : (y m : ℕ) → 1 ≤ m → m ≤ 12 → days_of y m ≡ cond (eqb m 2) (cond (is_leap y) 29 28) (get_or month_lengths (m - 1) 0)
unfolding days_of
in_year y m p q = rw (le-ltb m 1 p, le-ltb 12 m q)

-- only February hangs on the year
february : (y m : ℕ) → cond (eqb m 2) (is_leap y) false ≡ true → 29 ≡ cond (eqb m 2) (cond (is_leap y) 29 28) (get_or month_lengths (m - 1) 0)
unfolding month_lengths
february y m h = elim (ℕ_discrete m 2) [
  | yes e ↦ let l : is_leap y ≡ true = rw e at h in rw (e, l)
  | no e ↦ let f : false ≡ true = rw (ne_eqb m 2 e) at h in let z : ◌≡◌ {A = ℕ} 0 1 = cc in absurd (omega arith)
]

as_listed : (y m : ℕ) → cond (eqb m 2) (is_leap y) false ≡ false
    → get_or month_lengths (m - 1) 0 ≡ cond (eqb m 2) (cond (is_leap y) 29 28) (get_or month_lengths (m - 1) 0)
unfolding month_lengths
as_listed y m h = elim (ℕ_discrete m 2) [
  | yes e ↦ let l : is_leap y ≡ false = rw e at h in rw (e, l)
  | no e ↦ rw (ne_eqb m 2 e)
]

pub returns-then-month-lt1 : goal.returns-then-month-lt1
unfolding days_of
returns-then-month-lt1 c = search picks

pub returns-then-month-gt12 : goal.returns-then-month-gt12
unfolding days_of
returns-then-month-gt12 c = search picks

pub returns-then-is_long_february : goal.returns-then-is_long_february
returns-then-is_long_february c =
    let a = c.args in
    february a.year a.month (sym c.is_long_february.ensures ∙ c.if-is_long_february.true) ∙ sym (in_year a.year a.month (omega arith) (omega arith))

pub returns : goal.returns
unfolding month_lengths
returns c =
    let a = c.args in
    as_listed a.year a.month (sym c.is_long_february.ensures ∙ c.if-is_long_february.false) ∙ sym (in_year a.year a.month (omega arith) (omega arith))
