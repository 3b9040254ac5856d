-- Bytes that leave a state where it is but for its place, or inside its number. Assumes nothing: these are definitions.
use Rattle.std.specs.Prelude.{ℕ, ◌+◌, ◌-◌, ◌≤◌, ◌<◌, ◌≡◌, List, length}
use Rattle.std.proofs.Math.Seq.{slice}
use Rattle.text.specs.Limits.{base}
use Rattle.text.specs.Tree.{Bracket}
use Rattle.wire.specs.Machine.{going, feeds}
use Rattle.wire.specs.Held.{spot_at}

-- those of a text from one place to another lead from one spot to another, whatever else the state is
pub record Leads (spot : ℕ) (t : List ℕ) (from next to : ℕ) : Type 0 where
  pub later : from ≤ to
  pub inside : to ≤ length t
  pub going_on : next < 54
  pub leads : (at n : ℕ) (os : List Bracket) (place bits high : ℕ)
      → feeds base (going at n os (spot_at spot place bits high)) (slice from to t) ≡ going (at + (to - from)) n os (spot_at next place bits high)
