-- The values of a text as a tree with places. Assumes nothing: these are definitions.
use Rattle.std.specs.Prelude.{ℕ, suc, ◌+◌}

-- the two containers: arrays and objects
pub data Bracket : Type 0 where
  square curly : Bracket

-- their kinds in a row
abbrev pub bracket_kind : Bracket → ℕ
bracket_kind square = 6
bracket_kind curly = 7

-- Values one beside the other. A value that holds no others has its kind (1 to 5), where its name starts and ends (without quotes; 0 and 0 for
-- the root and in arrays) and where it starts and ends; a container has its bracket, the same places, and what is inside it; then what follows.
pub data Forest : Type 0 where
  none : Forest
  leaf : (kind ns ne from to : ℕ) (rest : Forest) → Forest
  node : (b : Bracket) (ns ne from to : ℕ) (inside rest : Forest) → Forest

-- how many values there are, those inside others too
unfoldable pub size : Forest → ℕ
size none = 0
size (leaf kind ns ne from to rest) = suc (size rest)
size (node b ns ne from to inside rest) = suc (size inside + size rest)

-- the values of one and then those of the other
unfoldable pub join : Forest → Forest → Forest
join none g = g
join (leaf kind ns ne from to rest) g = leaf kind ns ne from to (join rest g)
join (node b ns ne from to inside rest) g = node b ns ne from to inside (join rest g)
