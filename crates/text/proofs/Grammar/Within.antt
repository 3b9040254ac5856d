-- Where an answer's place is: not before the place that is asked, and inside the text. The name that a value is given does not matter to it.
-- Assumes nothing.
use Rattle.std.specs.Prelude.{Result, Ok, Err}
use Rattle.text.specs.declared.Fault.{Fault}
use Rattle.text.specs.declared.Fault.TheVariants.{Malformed, Forbidden}
use mathlib.Core.Path.{◌≡◌, refl}
use mathlib.Core.List.{List}
use mathlib.Core.Bool.{Bool, true, false, cond}
use Prim.Native.Nat.{ℕ, zero, suc, ◌+◌, ◌≤◌}
use native.Mathlib.Omega.{arith}
use lib.ListN.{length}
use lib.Dec.{leb, eqb}
use Rattle.text.specs.Limits.{Limits}
use Rattle.text.specs.Text.{byte_at}
use Rattle.text.specs.Tokens.{kind_by, token_at}
use Rattle.text.specs.Tree.{Bracket, square, curly, Forest, none}
use Rattle.text.specs.Grammar.{closing, value, item, items}
use Rattle.text.specs.Reader.{Read, good, bad, Reader, scalar_with, scalar_at, close_of, container, deep, value_with, items_from, value_at}
use Rattle.text.specs.Seats.{Seat}
use Rattle.text.specs.declared.Refusal.TheVariants.{Grammar, Many}
use Rattle.text.proofs.Grammar.Stands.{stands_to, stands_inside}
use Rattle.text.proofs.Grammar.Sound.{place_of, told_place, items_told, Parsed, Viable, ItemsStand}
use Rattle.text.proofs.Grammar.Told.{item_at, no_name, value_told, item_told}

pub close_place : (b : Bracket) (ns ne at : ℕ) (R : Read) → place_of (close_of b ns ne at R) ≡ place_of R
unfolding close_of
close_place b ns ne at (good f to) = refl
close_place b ns ne at (bad r) = refl

module _ (L : Limits) (t : List ℕ) where
  -- ---- the name does not matter ----

  Anonymous : Reader → Type 0
  Anonymous read = (ns ne at n : ℕ) → place_of (read ns ne at n) ≡ place_of (read 0 0 at n)

  scalar_anonymous : (kind : ℕ) → Anonymous (scalar_at L t kind)
  unfolding Anonymous scalar_at scalar_with
  scalar_anonymous kind ns ne at n = go (leb L.values n) (token_at t kind at)
    where
      go : (c : Bool) (k : Result ℕ (Fault ℕ)) → place_of (cond c (bad (Many at)) (scalar_with kind ns ne at k)) ≡ place_of (cond c (bad (Many at)) (scalar_with kind 0 0 at k))
      go true k = refl
      go false (Ok to) = refl
      go false (Err (Malformed p)) = refl
      go false (Err (Forbidden p)) = refl

  container_anonymous : (b : Bracket) (inside : ℕ → ℕ → Read) → Anonymous (container L b inside)
  unfolding Anonymous container close_of
  container_anonymous b inside ns ne at n = go (leb L.values n) (inside (at + 1) (n + 1))
    where
      go : (c : Bool) (R : Read) → place_of (cond c (bad (Many at)) (close_of b ns ne at R)) ≡ place_of (cond c (bad (Many at)) (close_of b 0 0 at R))
      go true R = refl
      go false (good f to) = refl
      go false (bad r) = refl

  with_anonymous : (arrays objects : Reader) → Anonymous arrays → Anonymous objects → Anonymous (value_with L t arrays objects)
  unfolding Anonymous value_with
  with_anonymous arrays objects a o ns ne at n = go (eqb kind 0) (eqb kind 6) (eqb kind 7)
    where
      kind : ℕ
      kind = kind_by (byte_at t at)

      go : (x y z : Bool) → place_of (cond x (bad (Grammar at)) (cond y (arrays ns ne at n) (cond z (objects ns ne at n) (scalar_at L t kind ns ne at n))))
          ≡ place_of (cond x (bad (Grammar at)) (cond y (arrays 0 0 at n) (cond z (objects 0 0 at n) (scalar_at L t kind 0 0 at n))))
      go true y z = refl
      go false true z = a ns ne at n
      go false false true = o ns ne at n
      go false false false = scalar_anonymous kind ns ne at n

  value_anonymous : (depth ns ne at n : ℕ) → place_of (value_at L t depth ns ne at n) ≡ place_of (value_at L t depth 0 0 at n)
  unfolding value_at Anonymous deep
  value_anonymous zero = with_anonymous deep deep (λ ns ne at n. refl) (λ ns ne at n. refl)
  value_anonymous (suc depth) = with_anonymous _ _ (container_anonymous square _) (container_anonymous curly _)

  -- ---- where the place is ----

  -- a seat after so many values, and those before it in its container
  abbrev seat : ℕ → Forest → Seat
  seat n before = record { inside = 0; after = n; beside = before }

  module _ (depth : ℕ) where
    pub value_later : (ns ne at n : ℕ) → at ≤ length t → at ≤ place_of (value_at L t depth ns ne at n)
    value_later ns ne at n i =
        rw (value_anonymous depth ns ne at n)
        (told_place (λ x. at ≤ x) (Parsed L t value depth (seat n none) 0 0 at) (Viable L t value at) (λ f to p. omega (arith, stands_to p.stands)) (λ q e l v. v.later) (value_at L t depth 0 0 at n)
        (value_told L t depth (seat n none) 0 0 at (no_name L t none) i))

    pub value_within : (ns ne at n : ℕ) → at ≤ length t → place_of (value_at L t depth ns ne at n) ≤ length t
    value_within ns ne at n i =
        rw (value_anonymous depth ns ne at n)
        (told_place (λ x. x ≤ length t) (Parsed L t value depth (seat n none) 0 0 at) (Viable L t value at) (λ f to p. stands_inside p.stands i) (λ q e l v. omega (arith, v.within)) (value_at L t depth 0 0 at n)
        (value_told L t depth (seat n none) 0 0 at (no_name L t none) i))

    pub item_within : (b : Bracket) (before : Forest) (at n : ℕ) → at ≤ length t → place_of (item_at L t depth b before at n) ≤ length t
    item_within b before at n i =
        told_place (λ x. x ≤ length t) (Parsed L t (item b) depth (seat n before) 0 0 at) (Viable L t (item b) at) (λ f to p. stands_inside p.stands i) (λ q e l v. omega (arith, v.within)) (item_at L t depth b before at n)
        (item_told L t depth b (seat n before) at i)

    pub items_later : (b : Bracket) (turns at n : ℕ) (before : Forest) → at ≤ length t → at ≤ place_of (items_from t (item_at L t depth b) (closing b) turns at n before)
    items_later b turns at n before i =
        told_place (λ x. at ≤ x) (ItemsStand L t b depth (seat n before) at) (Viable L t (items b) at) (λ f to p. omega (arith, stands_to p.stands)) (λ q e l v. v.later) (items_from t (item_at L t depth b) (closing b) turns at n before)
        (items_told L t b depth (item_at L t depth b) (item_told L t depth b) turns (seat n before) at i)
