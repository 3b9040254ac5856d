-- What the functions of the survey ask. Assumes nothing: these are definitions.
use Rattle.std.specs.Prelude.{ℕ, ◌+◌, ◌*◌, ◌≤◌, ◌≡◌, List, length}
use Rattle.std.proofs.Math.Seq.{slice}
use Rattle.laws.specs.Earliest.{Climbs}
pub use Rattle.json_reader.specs.Rows.{Word}
use Rattle.fields.specs.Survey.{next_at, member_places, longest}

-- a packing that is no longer than one may be, and a store and a scratch with a word for each six of its bytes: a member has two heads
pub record Roomy (p store scratch : List ℕ) : Type 0 where
  pub short : length p ≤ longest
  pub store_fits : length p ≤ 6 * length store
  pub scratch_fits : length p ≤ 6 * length scratch

-- members inside such a packing, behind a head
pub record MembersAsk (p store : List ℕ) (from end : ℕ) : Type 0 where
  pub short : length p ≤ longest
  pub fits : length p ≤ 6 * length store
  pub head : 3 ≤ from
  pub inside : end ≤ length p

-- so many words of the store are the places of their names
pub record Listed (p : List ℕ) (from end : ℕ) (store : List ℕ) (n : ℕ) : Type 0 where
  pub are : slice 0 n store ≡ member_places p from end
  pub inside : n ≤ length store
  pub few : 6 * n ≤ end + 2

-- places in their order, and a scratch of as many words
pub record RepeatAsks (names scratch : List ℕ) : Type 0 where
  pub climbs : Climbs names
  pub fits : length names ≤ length scratch

-- a field that lies inside such a packing, and the place behind it
pub record RepeatsAsk (p store scratch : List ℕ) (at next : ℕ) : Type 0 where
  pub roomy : Roomy p store scratch
  pub ends : next ≡ next_at p at
  pub inside : next ≤ length p
