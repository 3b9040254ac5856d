-- The search for a repeated name among the places of names: what its functions ask.
-- Assumes nothing: these are definitions.
use Rattle.std.specs.Prelude.{ℕ, ◌≤◌, ◌<◌, List, length}
use Rattle.laws.specs.Earliest.{Climbs}
use Rattle.text.specs.Limits.{base}

-- two places behind quotes, and a number of bytes, that are words or one more
abbrev pub AgreeAsks : (a b most : ℕ) → Type 0
AgreeAsks a b most = (a ≤ 4294967296) × (b ≤ 4294967296) × (most ≤ 4294967296)

-- names in the order of a text whose length and one more fit a word, and at least one
pub record SomeAsks (t names : List ℕ) : Type 0 where
  pub short : length t < 4294967295
  pub climbs : Climbs names
  pub some : 0 < length names

-- names in the order of such a text, as many as it may have values or fewer
pub record RepeatAsks (t names : List ℕ) : Type 0 where
  pub short : length t < 4294967295
  pub climbs : Climbs names
  pub most : length names ≤ base.values
