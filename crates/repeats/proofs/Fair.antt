-- The readers of values are fair, as the check at an object's end asks:
--     value-fair      for all limits and all texts
-- Assumes nothing.
use Rattle.std.specs.Prelude.{Result, Ok, Err}
use Rattle.text.specs.declared.Fault.{Fault}
use Rattle.text.specs.declared.Fault.TheVariants.{Malformed, Forbidden}
use mathlib.Core.Path.{◌≡◌, refl}
use mathlib.Core.List.{List}
use mathlib.Core.Bool.{Bool, true, false, cond}
use Prim.Native.Nat.{ℕ, zero, suc, ◌+◌}
use lib.Dec.{leb, eqb}
use Rattle.laws.specs.Order.{same}
use Rattle.text.specs.Limits.{Limits}
use Rattle.text.specs.Text.{byte_at}
use Rattle.text.specs.Strings.{name_of}
use Rattle.text.specs.Tokens.{kind_by, token_at}
use Rattle.text.specs.Tree.{Bracket, square, curly}
use Rattle.text.specs.Reader.{Read, good, bad, Reader, scalar_with, scalar_at, close_of, container, deep, value_with, inside_array, inside_object, named, value_at}
use Rattle.text.specs.declared.Refusal.TheVariants.{Grammar, Many}
use Rattle.text.proofs.Grammar.Within.{value_later, value_within}
use Rattle.repeats.proofs.Members.{Fair}

-- ---- what is accepted as a value is one value, of the name that was given

module _ (L : Limits) (t : List ℕ) where
  abbrev Called : (ns ne : ℕ) → Read → Type 0
  Called ns ne (good f to) = (name : List ℕ) → named t name f ≡ same (name_of t ns ne) name
  Called ns ne (bad r) = Prim.Unit {0}

  alone : (b : Bool) → cond b true false ≡ b
  alone true = refl
  alone false = refl

  called_cond : (ns ne : ℕ) (b : Bool) (x y : Read) → Called ns ne x → Called ns ne y → Called ns ne (cond b x y)
  called_cond ns ne true x y p q = p
  called_cond ns ne false x y p q = q

  called_token : (kind ns ne at : ℕ) (k : Result ℕ (Fault ℕ)) → Called ns ne (scalar_with kind ns ne at k)
  unfolding scalar_with named
  called_token kind ns ne at (Ok to) = λ name. alone (same (name_of t ns ne) name)
  called_token kind ns ne at (Err (Malformed p)) = tt
  called_token kind ns ne at (Err (Forbidden p)) = tt

  called_close : (b : Bracket) (ns ne at : ℕ) (R : Read) → Called ns ne (close_of b ns ne at R)
  unfolding close_of named
  called_close b ns ne at (good f to) = λ name. alone (same (name_of t ns ne) name)
  called_close b ns ne at (bad r) = tt

  Calling : Reader → Type 0
  Calling read = (ns ne at n : ℕ) → Called ns ne (read ns ne at n)

  called_box : (b : Bracket) (inner : ℕ → ℕ → Read) → Calling (container L b inner)
  unfolding Calling container
  called_box b inner ns ne at n = called_cond ns ne (leb L.values n) (bad (Many at)) (close_of b ns ne at (inner (at + 1) (n + 1))) tt (called_close b ns ne at (inner (at + 1) (n + 1)))

  called_with : (arrays objects : Reader) → Calling arrays → Calling objects → Calling (value_with L t arrays objects)
  unfolding Calling value_with scalar_at
  called_with arrays objects a o ns ne at n =
      let kind = kind_by (byte_at t at) in
      called_cond ns ne (eqb kind 0) (bad (Grammar at)) (cond (eqb kind 6) (arrays ns ne at n) (cond (eqb kind 7) (objects ns ne at n) (scalar_at L t kind ns ne at n))) tt
      (called_cond ns ne (eqb kind 6) (arrays ns ne at n) (cond (eqb kind 7) (objects ns ne at n) (scalar_at L t kind ns ne at n)) (a ns ne at n)
      (called_cond ns ne (eqb kind 7) (objects ns ne at n) (scalar_at L t kind ns ne at n) (o ns ne at n)
      (called_cond ns ne (leb L.values n) (bad (Many at)) (scalar_with kind ns ne at (token_at t kind at)) tt (called_token kind ns ne at (token_at t kind at)))))

  value_called : (depth : ℕ) → Calling (value_at L t depth)
  unfolding Calling value_at deep
  value_called zero = called_with deep deep (λ ns ne at n. tt) (λ ns ne at n. tt)
  value_called (suc depth) =
      called_with (container L square (inside_array t (value_at L t depth))) (container L curly (inside_object L t (value_at L t depth)))
      (called_box square (inside_array t (value_at L t depth))) (called_box curly (inside_object L t (value_at L t depth)))

  pub value_fair : (depth : ℕ) → Fair t (value_at L t depth)
  unfolding Calling
  value_fair depth =
      record {
        later = value_later L t depth;
        within = value_within L t depth;
        called = λ ns ne at n f to e. rw e at (value_called depth ns ne at n);
      }
