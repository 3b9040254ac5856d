-- Where the values of a tree stand: inside how many containers, after how many other values, and after which ones in the same container.
-- Assumes nothing: these are definitions.
use Rattle.std.specs.Prelude.{ℕ, ◌+◌, List, Bool, true, false}
use Rattle.laws.specs.Lists.{part_of}
use Rattle.text.specs.Spelling.{Spells}
use Rattle.text.specs.Forest.{Bracket, bracket_kind, Forest, none, leaf, node, size, join}

-- a value without what is inside it: may it hold others (is it an array or an object)? and the words that its row says of it by itself
pub record Head : Type 0 where
  pub holds : Bool
  pub kind : ℕ
  pub ns : ℕ
  pub ne : ℕ
  pub from : ℕ
  pub to : ℕ
  pub below : ℕ

-- of a value that holds no others
abbrev pub leaf_head : (kind ns ne from to : ℕ) → Head
leaf_head kind ns ne from to = record { holds = false; kind = kind; ns = ns; ne = ne; from = from; to = to; below = 0 }

-- of an array or an object that holds so many
abbrev pub node_head : (b : Bracket) (ns ne from to below : ℕ) → Head
node_head b ns ne from to below = record { holds = true; kind = bracket_kind b; ns = ns; ne = ne; from = from; to = to; below = below }

-- where a value stands
pub record Seat : Type 0 where
  -- the containers around it
  pub inside : ℕ
  -- the values before it, in the order of the rows
  pub after : ℕ
  -- the values before it in its own container
  pub beside : Forest

-- the root's
abbrev pub top : Seat
top = record { inside = 0; after = 0; beside = none }

-- inside a container that stands there
abbrev pub under : Seat → Seat
under c = record { inside = c.inside + 1; after = c.after + 1; beside = none }

-- behind these values, of which the first stands there
abbrev pub behind : Seat → Forest → Seat
behind c f = record { inside = c.inside; after = c.after + size f; beside = join c.beside f }

-- `Sits c f d h`: if the first of the values f stands at c, then the value h, which is one of them or inside one of them, stands at d
pub data Sits : Seat → Forest → Seat → Head → Type 0 where
  leaf_here : {c : Seat} {kind ns ne from to : ℕ} {rest : Forest} → Sits c (leaf kind ns ne from to rest) c (leaf_head kind ns ne from to)
  node_here : {c : Seat} {b : Bracket} {ns ne from to : ℕ} {inner rest : Forest} → Sits c (node b ns ne from to inner rest) c (node_head b ns ne from to (size inner))
  into : {c d : Seat} {h : Head} {b : Bracket} {ns ne from to : ℕ} {inner rest : Forest} → Sits (under c) inner d h → Sits c (node b ns ne from to inner rest) d h
  leaf_on : {c d : Seat} {h : Head} {kind ns ne from to : ℕ} {rest : Forest}
      → Sits (behind c (leaf kind ns ne from to none)) rest d h → Sits c (leaf kind ns ne from to rest) d h
  node_on : {c d : Seat} {h : Head} {b : Bracket} {ns ne from to : ℕ} {inner rest : Forest}
      → Sits (behind c (node b ns ne from to inner none)) rest d h → Sits c (node b ns ne from to inner rest) d h

-- one of these values, not looking inside them, has a name that spells these code points
pub data Named (t codes : List ℕ) : Forest → Type 0 where
  leaf_here : {kind ns ne from to : ℕ} {rest : Forest} → Spells (part_of t ns ne) codes → Named t codes (leaf kind ns ne from to rest)
  node_here : {b : Bracket} {ns ne from to : ℕ} {inner rest : Forest} → Spells (part_of t ns ne) codes → Named t codes (node b ns ne from to inner rest)
  leaf_on : {kind ns ne from to : ℕ} {rest : Forest} → Named t codes rest → Named t codes (leaf kind ns ne from to rest)
  node_on : {b : Bracket} {ns ne from to : ℕ} {inner rest : Forest} → Named t codes rest → Named t codes (node b ns ne from to inner rest)
