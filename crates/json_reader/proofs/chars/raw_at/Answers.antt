-- `json_reader::chars::raw_at` meets its contract: a byte below 256 lies inside the text, as `raw` requires. Assumes nothing.
use Rattle.std.specs.Prelude.{Err}
use Rattle.text.specs.declared.Fault.TheVariants.{Forbidden}
use mathlib.Core.Path.{◌≡◌, refl, sym, ap, ◌∙◌}
use mathlib.Core.List.{List}
use Prim.Native.Nat.{ℕ}
use native.Mathlib.Omega.{arith}
use Rattle.text.specs.Chars.{raw_at}
use Rattle.laws.proofs.Places.{inside}
use Rattle.json_reader.proofs.chars.raw_at.Goals as goal

-- past the end no character stands
over : (t : List ℕ) (i : ℕ) → raw_at t i 256 ≡ Err (Forbidden i)
unfolding raw_at
over t i = refl

pub returns-then-b-eq-OVER : goal.returns-then-b-eq-OVER
returns-then-b-eq-OVER c =
    let a = c.args in
    sym (ap (raw_at a.text.now a.at) (sym c.peek-b.ensures.value ∙ c.if-b-eq-OVER.true) ∙ over a.text.now a.at)

pub raw-requires : goal.raw-requires
raw-requires c = inside c.args.text.now c.args.at (omega arith)

pub returns : goal.returns
returns c = rw (← c.peek-b.ensures.value) c.raw.ensures
