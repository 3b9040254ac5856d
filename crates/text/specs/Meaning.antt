-- What it means that a text is accepted with a tree, in the words of the grammar, of spelling and of the limits, and that a lent table has rows for it.
-- No reader is named here.
-- Assumes nothing: these are definitions.
use Rattle.std.specs.Prelude.{ℕ, ◌+◌, ◌-◌, ◌*◌, ◌≤◌, ◌<◌, ◌≡◌, List, true, length}
use Rattle.laws.specs.Lists.{part_of}
use Rattle.text.specs.Limits.{Limits, row_words}
use Rattle.text.specs.Spelling.{Spells}
use Rattle.text.specs.Forest.{Forest, size}
use Rattle.text.specs.Placed.{Quoted}
use Rattle.text.specs.Grammar.{JsonText, root_of, depth_of}
use Rattle.text.specs.Seats.{Head, Seat, top, Sits, Named}

-- docs/RULES.md, 3.5, names compared decoded: no member has a name that spells what the name of a member before it, in the same object, spells. (A value that is no
-- member has the name start 0.)
pub record DistinctNames (t : List ℕ) (f : Forest) : Type 0 where
  pub new : (d : Seat) (h : Head) → Sits top f d h → 0 < h.ns → (codes : List ℕ) → Spells (part_of t h.ns h.ne) codes → Named t codes d.beside → ⊥

-- the text t is accepted with the tree f
pub record Accepts (L : Limits) (t : List ℕ) (f : Forest) : Type 0 where
  -- it is a text of the grammar, of which f is the tree
  pub derives : JsonText t
  pub tree : f ≡ root_of derives
  -- its strings and its names spell
  pub strings : (d : Seat) (h : Head) → Sits top f d h → h.kind ≡ 5 → Quoted t (h.from + 1) (h.to - 1)
  pub names : (d : Seat) (h : Head) → Sits top f d h → 0 < h.ns → Quoted t h.ns h.ne
  -- the names in each object are distinct
  pub distinct : L.unique ≡ true → DistinctNames t f
  -- the limits hold
  pub short : length t ≤ L.bytes
  pub shallow : depth_of f ≤ L.depth
  pub few : size f ≤ L.values

-- t is a JSON text that keeps I-JSON's rules within the limits, f is its tree, and a table of so many words has rows enough
pub record Readable (L : Limits) (words : ℕ) (t : List ℕ) (f : Forest) : Type 0 where
  pub accepts : Accepts L t f
  pub enough : row_words * size f ≤ words
