-- The names that a container closes:
--     aside-climb          those put aside stand one behind the other
--     aside-law            a container's items are what reading them without a comparison gives, settled by the earliest repeated name of these
-- Assumes nothing.
use Rattle.std.specs.Prelude.{Result, Ok, Err}
use Rattle.text.specs.declared.Fault.{Fault}
use Rattle.text.specs.declared.Fault.TheVariants.{Malformed, Forbidden}
use mathlib.Core.Path.{◌≡◌, refl}
use mathlib.Core.List.{List, [], ◌∷◌, ◌++◌}
use mathlib.Core.Bool.{Bool, true, false, cond}
use Prim.Native.Nat.{ℕ, zero, suc, ◌+◌, ◌≤◌}
use native.Mathlib.Omega.{arith}
use native.Mathlib.Decide.{dec_le}
use lib.ListN.{length, get_or-eq_default}
use lib.Dec.{eqb}
use borrow.Author.Tests.{eqb-true}
use Rattle.laws.proofs.Places.{inside}
use Rattle.laws.specs.Each.{Some}
use Rattle.laws.specs.Each as each
use Rattle.laws.specs.Earliest.{Climbs, up_none, up_more, repeat_from, first_repeat}
use Rattle.text.specs.Limits.{Limits, comparing, loose}
use Rattle.text.specs.Text.{byte_at}
use Rattle.text.specs.Strings.{string_end}
use Rattle.text.specs.Tokens.{skip}
use Rattle.text.specs.Tree.{Bracket, square, curly, Forest, none, size, join}
use Rattle.text.specs.Grammar.{closing}
use Rattle.text.specs.Reader.{Read, good, bad, Reader, ItemReader, inside_of, colon_at, member_with, member_of}
use Rattle.text.specs.declared.Refusal.TheVariants.{Grammar}
use Rattle.text.proofs.Grammar.Words.{skip_later, skip_inside}
use Rattle.repeats.specs.Quoted.{tail_at}
use Rattle.repeats.specs.Closed.{strict_item, loose_item, closed_by, own_name, closed_after, closed_from, closed_in, names_in, names_aside, settle}
use Rattle.repeats.proofs.Members.{Fair, Colon, colon_told, members_law}

-- ---- an array closes none, and where names aren't compared none is put aside

module _ (t : List ℕ) (item : ItemReader) (z : ℕ) where
  after_none : (more : Forest → ℕ → List ℕ) → ((f : Forest) (x : ℕ) → more f x ≡ []) → (R : Read) → closed_after t (λ at. []) item z more R ≡ []
  after_none more h (bad r) = refl
  after_none more h (good f to) = go (eqb (byte_at t (skip t to)) z) (eqb (byte_at t (skip t to)) 44)
    where
      go : (a b : Bool) → cond a [] (cond b (more f (skip t (skip t to + 1))) []) ≡ []
      go true b = refl
      go false true = h f (skip t (skip t to + 1))
      go false false = refl

  from_none : (turns at n : ℕ) (done : Forest) → closed_from t (λ at. []) item z turns at n done ≡ []
  unfolding closed_from
  from_none zero at n done = refl
  from_none (suc turns) at n done =
      after_none (λ f x. closed_from t (λ at. []) item z turns x (n + size f) (join done f)) (λ f x. from_none turns x (n + size f) (join done f)) (item done at n)

  none_closed : (at n : ℕ) → closed_in t (λ at. []) item z at n ≡ []
  unfolding closed_in
  none_closed at n = go (eqb (byte_at t (skip t at)) z)
    where
      go : (b : Bool) → cond b [] (closed_from t (λ at. []) item z (suc (length t)) (skip t at) n none) ≡ []
      go true = refl
      go false = from_none (suc (length t)) (skip t at) n none

-- ---- those of an object stand one behind the other

-- each from a place on, one behind the other
data Run : ℕ → List ℕ → Type 0 where
  run_none : {from : ℕ} → Run from []
  run_more : {from p : ℕ} {ps : List ℕ} → from ≤ p → Run (p + 1) ps → Run from (p ∷ ps)

run_from : {x y : ℕ} {ps : List ℕ} → x ≤ y → Run y ps → Run x ps
run_from h run_none = run_none
run_from {x = x} h (run_more {p = p} l r) = run_more {from = x} {p = p} (omega arith) r

run_over : {x q : ℕ} {ps : List ℕ} → Run x ps → Some (λ y. y ≡ q) ps → x ≤ q
run_over {q = q} (run_none {from = from}) x6 = elim x6 [ ]
run_over (run_more l r) (each.here h) = omega arith
run_over (run_more l r) (each.later i) = let h = run_over r i in omega arith

run_climbs : {x : ℕ} {ps : List ℕ} → Run x ps → Climbs ps
run_climbs run_none = up_none
run_climbs (run_more {p = p} l r) = up_more {p = p} (λ q i. let h = run_over r i in omega arith) (run_climbs r)

module _ (L : Limits) (unique : L.unique ≡ true) (t : List ℕ) (value : Reader) (fair : Fair t value) where
  abbrev behind : (Forest → ℕ → List ℕ) → Read → List ℕ
  behind = closed_after t (own_name t curly) (loose_item L t value curly) (closing curly)

  module _ (done : Forest) (at n : ℕ) (more : Forest → ℕ → List ℕ) (next : (f : Forest) (x : ℕ) → x ≤ length t → Run x (more f x)) where
    after_run : (R : Read) → Colon L unique t value fair at R → Run (at + 1) (behind more R)
    after_run (bad r) c = run_none
    after_run (good f to) c = go (eqb (byte_at t x) (closing curly)) (eqb (byte_at t x) 44) refl
      where
        x : ℕ
        x = skip t to

        go : (a b : Bool) → eqb (byte_at t x) 44 ≡ b → Run (at + 1) (cond a [] (cond b (more f (skip t (x + 1))) []))
        go true b e = run_none
        go false false e = run_none
        go false true e =
            let l = inside t x (omega (arith, eqb-true (byte_at t x) 44 e)) in
            run_from (omega (arith, c.later, skip_later t to, skip_later t (x + 1))) (next f (skip t (x + 1)) (skip_inside t (x + 1) (omega arith)))

    item_run : (b : Bool) (k : Result ℕ (Fault ℕ)) → string_end t (at + 1) ≡ k
        → Run at (cond b (closed_by at k) [] ++ behind more (cond b (member_with (loose L) t value done at n k) (bad (Grammar at))))
    unfolding member_with
    item_run false k e = run_none
    item_run true (Err (Malformed p)) e = run_none
    item_run true (Err (Forbidden p)) e = run_none
    item_run true (Ok end) e = run_more {from = at} {p = at} (omega arith) (after_run (colon_at t value at end n) (colon_told L unique t value fair at end n e))

  abbrev closed : (turns at n : ℕ) → Forest → List ℕ
  closed = closed_from t (own_name t curly) (loose_item L t value curly) (closing curly)

  from_run : (turns at n : ℕ) (done : Forest) → at ≤ length t → Run at (closed turns at n done)
  unfolding closed_from member_of
  from_run zero at n done i = run_none
  from_run (suc turns) at n done i =
      item_run done at n (λ f x. closed turns x (n + size f) (join done f)) (λ f x h. from_run turns x (n + size f) (join done f) h) (eqb (byte_at t at) 34) (string_end t (at + 1)) refl

  past_none : (x n : ℕ) → byte_at t x ≡ 256 → closed (suc (length t)) x n none ≡ []
  unfolding closed_from member_of
  past_none x n e = rw e

  members_run : (at n : ℕ) → Run at (names_in L t value curly at n)
  unfolding closed_in
  members_run at n = go (eqb (byte_at t (skip t at)) (closing curly))
    where
      go : (b : Bool) → Run at (cond b [] (closed (suc (length t)) (skip t at) n none))
      go true = run_none
      go false = elim (dec_le at (length t)) [
        | yes i ↦ run_from (skip_later t at) (from_run (suc (length t)) (skip t at) n none (skip_inside t at i))
        | no i ↦ rw (past_none (skip t at) n (get_or-eq_default t 256 (omega (arith, skip_later t at)))) run_none
      ]

  -- ---- both containers

  names_climb : (b : Bracket) (at n : ℕ) → Climbs (names_in L t value b at n)
  names_climb square at n = rw (none_closed t (loose_item L t value square) (closing square) at n) up_none
  names_climb curly at n = run_climbs (members_run at n)

  container_law : (b : Bracket) (at n : ℕ)
      → inside_of t (strict_item L t value b) (closing b) at n
      ≡ settle (first_repeat (tail_at t 1) (names_in L t value b at n)) (inside_of t (loose_item L t value b) (closing b) at n)
  unfolding repeat_from
  container_law square at n = rw (none_closed t (loose_item L t value square) (closing square) at n)
  container_law curly at n = members_law L unique t value fair at n

-- ---- names compared or not

module _ (L : Limits) (t : List ℕ) (value : Reader) (fair : Fair t value) where
  none_aside : (b : Bracket) (at n : ℕ) → names_aside (loose L) t value b at n ≡ []
  none_aside b at n = none_closed t (loose_item (loose L) t value b) (closing b) at n

  pub aside_climb : (compare : Bool) (b : Bracket) (at n : ℕ) → Climbs (names_aside (comparing compare L) t value b at n)
  aside_climb true b at n = names_climb (comparing true L) refl t value fair b at n
  aside_climb false b at n = rw (none_aside b at n) up_none

  pub aside_law : (compare : Bool) (b : Bracket) (at n : ℕ)
      → inside_of t (strict_item (comparing compare L) t value b) (closing b) at n
      ≡ settle (first_repeat (tail_at t 1) (names_aside (comparing compare L) t value b at n)) (inside_of t (loose_item (comparing compare L) t value b) (closing b) at n)
  unfolding repeat_from
  aside_law true b at n = container_law (comparing true L) refl t value fair b at n
  aside_law false square at n = rw (none_aside square at n)
  aside_law false curly at n = rw (none_aside curly at n)
