-- `json_reader::names::slice` meets its contract: what is got is the part, and where nothing is the part is empty. Assumes nothing.
use Rattle.std.specs.Prelude.{Option, Some, None}
use mathlib.Core.Path.{◌≡◌, refl}
use mathlib.Core.List.{List, []}
use mathlib.Core.Logic.{inl, inr}
use Prim.Native.Nat.{ℕ}
use native.Mathlib.Omega.{arith}
use denote.Ref.{Bor}
use lib.ListN.{length}
use Rattle.std.specs.Option.{unwrap_or}
use Rattle.std.specs.Slice.{IsGetRangeResult}
use Rattle.laws.specs.Lists.{part_of}
use Rattle.laws.proofs.Branches.{if_most}
use Rattle.json_reader.proofs.names.slice.Goals as goal

got : (t : List ℕ) (s e : ℕ) (d : Bor (List ℕ)) (o : Option (Bor (List ℕ))) → d.now ≡ [] → IsGetRangeResult t s e o → (unwrap_or o d).now ≡ part_of t s e
unfolding part_of
got t s e d None z h =
    let P : List ℕ → Type 0 = λ xs. d.now ≡ xs in
    if_most P e (length t) (λ m. if_most P s e (λ n. elim h.0 [
      | inl k ↦ absurd (omega arith)
      | inr k ↦ absurd (omega arith)
    ]) (λ n. z)) (λ m. z)
got t s e d (Some x) z h =
    let P : List ℕ → Type 0 = λ xs. x.now ≡ xs in
    if_most P e (length t) (λ m. if_most P s e (λ n. h.0.2) (λ n. absurd (omega (arith, h.0.0)))) (λ m. absurd (omega (arith, h.0.1)))

pub returns : goal.returns
returns c = rw c.unwrap_or.ensures (got _ _ _ _ c.get.result refl c.get.ensures.lookup)
