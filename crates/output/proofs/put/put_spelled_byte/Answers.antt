-- `output::put::put_spelled_byte` meets its contract. Assumes nothing.
use Rattle.std.specs.Prelude.{Some, None}
use Prim.Native.Nat.{ℕ}
use mathlib.Core.Path.{◌≡◌, refl, sym, ◌∙◌}
use mathlib.Core.Bool.{Bool, true, false, cond}
use mathlib.Core.List.{[], ◌∷◌}
use native.Mathlib.Omega.{arith}
use lib.Dec.{eqb}
use borrow.Author.Tests.{lt-ltb, le-ltb}
use Rattle.text.specs.Writing.{short_of}
use Rattle.output.specs.Written.{short_escape}
use Rattle.output.proofs.Bytes.{wrote_then}
use Rattle.output.proofs.put.put_spelled_byte.Goals as goal

-- a byte that has a short escape, and one that has none
module _ (b : ℕ) where
  has_short : {s : ℕ} → short_escape b ≡ Some s → (eqb (short_of b) 0 ≡ false) × (short_of b ≡ s)
  has_short {s} = go (eqb (short_of b) 0)
    where
      go : (t : Bool) → cond t None (Some (short_of b)) ≡ Some s → (t ≡ false) × (short_of b ≡ s)
      go true e = let z : ◌≡◌ {A = ℕ} 0 1 = cc in absurd (omega arith)
      go false e = (refl, cc)

  has_none : short_escape b ≡ None → eqb (short_of b) 0 ≡ true
  has_none = go (eqb (short_of b) 0)
    where
      go : (t : Bool) → cond t None (Some (short_of b)) ≡ None → t ≡ true
      go true e = refl
      go false e = let z : ◌≡◌ {A = ℕ} 0 1 = cc in absurd (omega arith)

pub returns-in-Some : goal.returns-in-Some
returns-in-Some c =
    let (some, is) = has_short c.args.b (sym c.short_of.ensures ∙ c.in-Some.is) in
    rw (some, is) (wrote_then (92 ∷ []) (c.in-Some.short ∷ []) c.put_byte-p.ensures c.put_byte.ensures)

pub returns-then-b-lt32 : goal.returns-then-b-lt32
returns-then-b-lt32 c =
    rw (has_none c.args.b (sym c.short_of.ensures ∙ c.in_default.is), lt-ltb c.args.b 32 c.if-b-lt32.true) c.put_coded.ensures

pub returns : goal.returns
returns c =
    rw (has_none c.args.b (sym c.short_of.ensures ∙ c.in_default.is), le-ltb c.args.b 32 c.if-b-lt32.false) c.put_byte-2.ensures
