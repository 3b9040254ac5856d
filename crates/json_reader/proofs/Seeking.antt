-- From row to row, and a search for a member along the rows of an object:
--     row-after                       the row after a value, where there are numbers left
--     members-stand                   what is inside a value stands from the next row on
--     below-past, row_inside          past the table nothing is below a row; a row that has a kind is one of the table
--     inside-kinds, rest-kinds        the kinds of what is in a value and of what follows it
--     seek-here, seek-on              the first value has the name, or the search goes on after it
--     one_found                       two answers that a search allows are equal
--     Seeking and its laws            what is sought among the values from the start is sought among those that are left
-- Assumes nothing.
use Rattle.std.specs.Prelude.{Option, Some, None}
use Prim.Native.Nat.{ℕ, ◌+◌, ◌*◌, ◌≤◌, ◌<◌}
use mathlib.Core.Path.{◌≡◌, refl, sym, ap, ◌∙◌}
use mathlib.Core.Bool.{true, false}
use mathlib.Core.List.{List}
use mathlib.Core.Option.{none, some}
use native.Mathlib.Decide.{dec_le}
use native.Mathlib.Omega.{arith}
use lib.ListN.{length, get_or-eq_default}
use borrow.Author.Tests.{ne_eqb}
use Rattle.laws.specs.Order.{same}
use Rattle.laws.proofs.Orders.{same_eq}
use Rattle.text.specs.Limits.{row_words}
use Rattle.text.specs.Strings.{name_of}
use Rattle.text.specs.Tree.{Forest, size}
use Rattle.text.specs.Tree as T
use Rattle.text.specs.Firsts.{HasFirst, Kinds, name_start, name_end, inside_at, rest_at}
use Rattle.text.specs.Standing.{Stands, StandsTo}
use Rattle.text.specs.Doc.{Name, members_of, seek}
use Rattle.text.proofs.Promise.{first_row_lem, inside, after, some_at, none_at, members_first, members_none}
use Rattle.json_reader.specs.Rows.{kind_in, name_start_in, name_end_in, below_in}
use Rattle.json_reader.specs.Lookup.{last_row, row_after, first_member, from_name, Standing, Finds}

module _ (t : List ℕ) (n : Name) where
  from_here : (g : Forest) → HasFirst g → same (name_of t (name_start g) (name_end g)) n ≡ true → from_name t n g ≡ g
  unfolding from_name
  from_here T.none s e = absurd s
  from_here (T.leaf kind ns ne from to rest) s e = rw e
  from_here (T.node b ns ne from to below rest) s e = rw e

  from_on : (g : Forest) → HasFirst g → same (name_of t (name_start g) (name_end g)) n ≡ false → from_name t n g ≡ from_name t n (rest_at g)
  unfolding from_name
  from_on T.none s e = absurd s
  from_on (T.leaf kind ns ne from to rest) s e = rw e
  from_on (T.node b ns ne from to below rest) s e = rw e

module _ (t : List ℕ) (n : Name) (g : Forest) (s : HasFirst g) where
  pub seek_here : same (name_of t (name_start g) (name_end g)) n ≡ true → seek n (members_of t g) ≡ some (first_member t g)
  seek_here e = rw (members_first t g s, e)

  pub seek_on : same (name_of t (name_start g) (name_end g)) n ≡ false → seek n (members_of t g) ≡ seek n (members_of t (rest_at g))
  seek_on e = rw (members_first t g s, e)

-- ---- from row to row

pub row_after_lem : (table : List ℕ) (row : ℕ) {r : ℕ} → r ≡ row_after table row → row < last_row → r ≡ row + 1 + below_in table row
unfolding row_after
row_after_lem table row e lt = e ∙ rw (ne_eqb row last_row (λ same. omega arith))

-- what is inside a value stands from the next row on
pub members_stand : {table : List ℕ} {row end : ℕ} {f : Forest} → HasFirst f → Stands table row f → end ≡ row + 1 + below_in table row
    → StandsTo table (row + 1) end (inside_at f)
members_stand {f = f} s h e = rw (e, (first_row_lem f s h).below) (inside f s h)

-- past the table's end nothing is below a row
pub below_past : (table : List ℕ) (row : ℕ) → length table ≤ row → below_in table row ≡ 0
below_past table row le = get_or-eq_default table 0 (omega arith)

-- a row that has a kind is one of the table
pub row_inside : (table : List ℕ) (row : ℕ) → 0 < kind_in table row → row * row_words < length table
row_inside table row h =
    elim (dec_le (length table) (row * row_words)) [
      | yes le ↦
          let z : kind_in table row ≡ 0 = get_or-eq_default table 0 (omega arith) in
          absurd (omega arith)
      | no lt ↦ omega arith
    ]

pub inside_kinds : (f : Forest) → Kinds f → Kinds (inside_at f)
inside_kinds T.none k = k
inside_kinds (T.leaf kind ns ne from to rest) k = tt
inside_kinds (T.node b ns ne from to inside rest) k = k.0

pub rest_kinds : (g : Forest) → Kinds g → Kinds (rest_at g)
rest_kinds T.none k = k
rest_kinds (T.leaf kind ns ne from to rest) k = k.1
rest_kinds (T.node b ns ne from to inside rest) k = k.1

module _ (t table : List ℕ) (from end : ℕ) (n : Name) where
  -- of the values f there are left, at a row
  pub record Left (f : Forest) (at : ℕ) : Type 0 where
    pub ahead : Forest
    pub stands : StandsTo table at end ahead
    pub kinds : Kinds f → Kinds ahead
    pub first : from_name t n f ≡ from_name t n ahead
    pub is : seek n (members_of t f) ≡ seek n (members_of t ahead)

  abbrev pub Seeking : ℕ → Type 0
  Seeking at = (f : Forest) → StandsTo table from end f → Left f at

  pub seeks : Seeking from
  seeks f h = record { ahead = f; stands = h; kinds = λ k. k; first = refl; is = refl }

  module _ (at : ℕ) (g : Seeking at) (f : Forest) (h : StandsTo table from end f) where
    -- the name at the row is the one of the value there
    name_at_lem : at < end → name_of t (name_start_in table at) (name_end_in table at) ≡ name_of t (name_start (g f h).ahead) (name_end (g f h).ahead)
    name_at_lem lt =
        let l = g f h in
        let r = first_row_lem l.ahead (some_at l.ahead l.stands lt) l.stands.stands in
        rw (r.name_starts, r.name_ends)

    pub seek_hit : at < end → same (name_of t (name_start_in table at) (name_end_in table at)) n ≡ true → Standing t table end n f at
    seek_hit lt e =
        let l = g f h in
        let s = some_at l.ahead l.stands lt in
        record {
          found = l.ahead;
          some_found = s;
          stands = l.stands;
          first = sym (l.first ∙ from_here t n l.ahead s (rw (name_at_lem lt) at e));
          named = same_eq (name_of t (name_start_in table at) (name_end_in table at)) n e;
          kinds = l.kinds;
          is = l.is ∙ seek_here t n l.ahead s (rw (name_at_lem lt) at e);
        }

    pub seek_next : at < end → same (name_of t (name_start_in table at) (name_end_in table at)) n ≡ false → Left f (at + 1 + below_in table at)
    seek_next lt e =
        let l = g f h in
        let s = some_at l.ahead l.stands lt in
        record {
          ahead = rest_at l.ahead;
          stands = rw (first_row_lem l.ahead s l.stands.stands).below (after l.ahead s l.stands);
          kinds = λ k. rest_kinds l.ahead (l.kinds k);
          first = l.first ∙ from_on t n l.ahead s (rw (name_at_lem lt) at e);
          is = l.is ∙ seek_on t n l.ahead s (rw (name_at_lem lt) at e);
        }

    pub seek_none : end ≤ at → seek n (members_of t f) ≡ none
    seek_none le =
        let l = g f h in
        l.is ∙ ap (λ v. seek n (members_of t v)) (none_at l.ahead l.stands le) ∙ ap (seek n) (members_none t)

-- what was found, by name
pub standing : {t table : List ℕ} {end : ℕ} {n : Name} {f : Forest} {m : ℕ} → Standing t table end n f m → Standing t table end n f m
standing h = h

-- two answers that a search allows are equal
pub one_found : (t table : List ℕ) (end : ℕ) (n : Name) (f : Forest) (r s : Option ℕ) → Finds t table end n f r → Finds t table end n f s → r ≡ s
one_found t table end n f (Some m) (Some k) a b =
    let same_rest : a.found ≡ b.found = a.first ∙ sym b.first in
    let same_size : size a.found ≡ size b.found = ap size same_rest in
    let same_row : m ≡ k = omega (arith, a.stands.ends, b.stands.ends, same_size) in
    ap Some same_row
one_found t table end n f (Some m) None a b = let z : ◌≡◌ {A = ℕ} 0 1 = cc in absurd (omega arith)
one_found t table end n f None (Some k) a b = let z : ◌≡◌ {A = ℕ} 0 1 = cc in absurd (omega arith)
one_found t table end n f None None a b = refl
