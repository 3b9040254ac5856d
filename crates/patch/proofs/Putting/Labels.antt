-- Laws of a name as a text has it:
--     label-none, label-out     a name that is not there
-- Assumes nothing.
use Prim.Native.Nat.{ℕ, ◌+◌, ◌-◌, ◌≤◌}
use mathlib.Core.Path.{◌≡◌}
use mathlib.Core.List.{List, []}
use native.Mathlib.Omega.{arith}
use lib.ListN.{length}
use borrow.Author.Tests.{eq-eqb, ne_eqb}
use Rattle.laws.proofs.Parts.{part_out}
use Rattle.text.specs.Doc.{label_at}

module _ (t : List ℕ) (ns ne : ℕ) where
  pub label_none : ns ≡ 0 → label_at t ns ne ≡ []
  label_none e = rw (eq-eqb ns 0 e)

  pub label_out : (ns ≡ 0 → ⊥) → length t ≤ ne → label_at t ns ne ≡ []
  label_out some h = rw (ne_eqb ns 0 some) (part_out t (ns - 1) (ne + 1) (omega arith))
