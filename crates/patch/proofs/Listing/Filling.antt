-- The rows of members, one after the other:
--     Counting and its laws     how many were passed
--     Filling and its laws      the list of their rows as it is filled
-- Assumes nothing.
use Prim.Native.Nat.{ℕ, ◌+◌, ◌≤◌, ◌<◌}
use mathlib.Core.Path.{◌≡◌, refl, ◌∙◌}
use mathlib.Core.List.{List}
use native.Mathlib.Omega.{arith}
use lib.ListN.{length, get_or, set}
use lib.Seq.{get_or-set_same, get_or-set_other}
use Rattle.text.specs.Tree.{Forest}
use Rattle.text.specs.Tree as T
use Rattle.text.specs.Firsts.{HasFirst, rest_at}
use Rattle.text.specs.Standing.{StandsTo}
use Rattle.text.proofs.Promise.{first_row_lem, after, some_at, none_at}
use Rattle.json_reader.specs.Rows.{below_in}
use Rattle.patch.specs.Entries.{width, RowsOf, no_more, one_more}

-- ---- counted

width_first : (f : Forest) → HasFirst f → width f ≡ width (rest_at f) + 1
width_first T.none s = absurd s
width_first (T.leaf kind ns ne from to rest) s = refl
width_first (T.node b ns ne from to inside rest) s = refl

module _ (table : List ℕ) (from end n at : ℕ) where
  -- n of the values f were passed, and the others stand from a row on
  pub record Passed (f : Forest) : Type 0 where
    pub ahead : Forest
    pub stands : StandsTo table at end ahead
    pub count : width f ≡ n + width ahead

  abbrev pub Counting : Type 0
  Counting = (f : Forest) → StandsTo table from end f → Passed f

pub count_start : (table : List ℕ) (from end : ℕ) → Counting table from end 0 from
count_start table from end f h = record { ahead = f; stands = h; count = omega arith }

module _ {table : List ℕ} {from end n at : ℕ} {f : Forest} (p : Passed table from end n at f) where
  -- there is one more
  some_left : at < end → HasFirst p.ahead
  some_left lt = some_at p.ahead p.stands lt

  pub one_left : at < end → n < width f
  one_left lt = omega (arith, p.count, width_first p.ahead (some_left lt))

  pub count_on : at < end → Passed table from end (n + 1) (at + 1 + below_in table at) f
  count_on lt =
      let s = some_left lt in
      record {
        ahead = rest_at p.ahead;
        stands = rw (first_row_lem p.ahead s p.stands.stands).below (after p.ahead s p.stands);
        count = omega (arith, p.count, width_first p.ahead s);
      }

  nothing_left : end ≤ at → p.ahead ≡ T.none
  nothing_left le = none_at p.ahead p.stands le

  pub count_end : end ≤ at → n ≡ width f
  count_end le = let z : width p.ahead ≡ 0 = rw (nothing_left le) in omega (arith, p.count)

-- ---- listed

module _ (table : List ℕ) (from end : ℕ) (rows : List ℕ) (n at : ℕ) where
  -- a list that begins as the present one, and goes on with the rows of the values that are left, has those of all values f
  pub record Begun (f : Forest) : Type 0 where
    pub passed : Passed table from end n at f
    pub all : (later : List ℕ) (m : ℕ) → ((i : ℕ) → i < n → get_or later i 0 ≡ get_or rows i 0) → RowsOf later n m at passed.ahead
        → RowsOf later 0 m from f

  abbrev pub Filling : Type 0
  Filling = (f : Forest) → StandsTo table from end f → Begun f

pub fill_start : (table : List ℕ) (from end : ℕ) (rows : List ℕ) → Filling table from end rows 0 from
unfolding count_start
fill_start table from end rows f h = record { passed = count_start table from end f h; all = λ later m same r. r }

in_order : {rows : List ℕ} {i n k : ℕ} {f : Forest} → RowsOf rows i n k f → i ≤ n
in_order no_more = omega arith
in_order (one_more f lt s e r) = omega arith

module _ {table : List ℕ} {from end : ℕ} {rows : List ℕ} {n at : ℕ} (g : Filling table from end rows n at) (f : Forest)
    (h : StandsTo table from end f) where
  pub fill_on : at < end → n < length rows → Begun table from end (set rows n at) (n + 1) (at + 1 + below_in table at) f
  unfolding count_on
  fill_on lt room =
      let b = g f h in
      let p = b.passed in
      let s = some_left p lt in
      record {
        passed = count_on p lt;
        all =
            λ later m same r.
            let here : get_or later n 0 ≡ at = same n (omega arith) ∙ get_or-set_same rows n at 0 room in
            b.all later m (λ i less. same i (omega arith) ∙ get_or-set_other rows n i at 0 (λ e. omega arith))
            (one_more p.ahead (omega (arith, in_order r)) s here (rw (← (first_row_lem p.ahead s p.stands.stands).below) r));
      }

  pub fill_end : end ≤ at → RowsOf rows 0 n from f
  fill_end le =
      let b = g f h in
      b.all rows n (λ i less. refl) (rw (nothing_left b.passed le) no_more)
