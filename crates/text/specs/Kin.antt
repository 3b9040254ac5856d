-- Which value directly holds which, and which follows which: in words of the tree, and by the last two words of the rows (docs/RULES.md, 4). Then what a
-- caller may rely on who climbs from row to parent, or goes from sibling to sibling; at the end all of it as one promise, `Kinship`.
-- Assumes nothing: these are definitions.
use Rattle.std.specs.Prelude.{ℕ, suc, ◌+◌, ◌≤◌, ◌<◌, ◌≡◌, ◌↔◌, List, [], ◌∷◌}
use Rattle.laws.specs.Each.{Some}
use Rattle.laws.specs.Earliest.{Climbs}
use Rattle.text.specs.Forest.{Bracket, Forest, none, leaf, node, size}
use Rattle.text.specs.Grammar.{depth_of}
use Rattle.text.specs.Seats.{Head, Seat, top, under, behind, Sits}
use Rattle.text.specs.Words.{below_in, parent_in, sibling_in}

-- ---- in the tree

-- `Among c f d`: if the first of the values f stands at c, then one of them, not looking inside them, stands at d
pub data Among : Seat → Forest → Seat → Type 0 where
  leaf_here : {c : Seat} {kind ns ne from to : ℕ} {rest : Forest} → Among c (leaf kind ns ne from to rest) c
  node_here : {c : Seat} {b : Bracket} {ns ne from to : ℕ} {inner rest : Forest} → Among c (node b ns ne from to inner rest) c
  leaf_on : {c d : Seat} {kind ns ne from to : ℕ} {rest : Forest}
      → Among (behind c (leaf kind ns ne from to none)) rest d → Among c (leaf kind ns ne from to rest) d
  node_on : {c d : Seat} {b : Bracket} {ns ne from to : ℕ} {inner rest : Forest}
      → Among (behind c (node b ns ne from to inner none)) rest d → Among c (node b ns ne from to inner rest) d

-- `Holds c f d e`: if the first of the values f stands at c, then the array or object at d is one of them or inside one of them, and the value at e
-- stands directly in it
pub data Holds : Seat → Forest → (d e : Seat) → Type 0 where
  here : {c e : Seat} {b : Bracket} {ns ne from to : ℕ} {inner rest : Forest} → Among (under c) inner e → Holds c (node b ns ne from to inner rest) c e
  into : {c d e : Seat} {b : Bracket} {ns ne from to : ℕ} {inner rest : Forest} → Holds (under c) inner d e → Holds c (node b ns ne from to inner rest) d e
  leaf_on : {c d e : Seat} {kind ns ne from to : ℕ} {rest : Forest}
      → Holds (behind c (leaf kind ns ne from to none)) rest d e → Holds c (leaf kind ns ne from to rest) d e
  node_on : {c d e : Seat} {b : Bracket} {ns ne from to : ℕ} {inner rest : Forest}
      → Holds (behind c (node b ns ne from to inner none)) rest d e → Holds c (node b ns ne from to inner rest) d e

-- `Follows c f d e`: likewise, and the value at e is the one that follows the value at d, in the same container
pub data Follows : Seat → Forest → (d e : Seat) → Type 0 where
  leaf_here : {c e : Seat} {kind ns ne from to : ℕ} {rest : Forest} → e ≡ behind c (leaf kind ns ne from to none) → Among e rest e
      → Follows c (leaf kind ns ne from to rest) c e
  node_here : {c e : Seat} {b : Bracket} {ns ne from to : ℕ} {inner rest : Forest} → e ≡ behind c (node b ns ne from to inner none) → Among e rest e
      → Follows c (node b ns ne from to inner rest) c e
  into : {c d e : Seat} {b : Bracket} {ns ne from to : ℕ} {inner rest : Forest} → Follows (under c) inner d e → Follows c (node b ns ne from to inner rest) d e
  leaf_on : {c d e : Seat} {kind ns ne from to : ℕ} {rest : Forest}
      → Follows (behind c (leaf kind ns ne from to none)) rest d e → Follows c (leaf kind ns ne from to rest) d e
  node_on : {c d e : Seat} {b : Bracket} {ns ne from to : ℕ} {inner rest : Forest}
      → Follows (behind c (node b ns ne from to inner none)) rest d e → Follows c (node b ns ne from to inner rest) d e

-- ---- the two words of a row

-- the parent's row: that of the array or object in which the value at a seat directly stands; 0 for the root
pub data ParentRow (f : Forest) : Seat → ℕ → Type 0 where
  root : ParentRow f top 0
  held : {d e : Seat} → Holds top f d e → ParentRow f e d.after

-- the next sibling's row: that of the value which follows it there; 0 where none does
pub data SiblingRow (f : Forest) : Seat → ℕ → Type 0 where
  next : {d e : Seat} → Follows top f d e → SiblingRow f d e.after
  last : {d : Seat} → ((e : Seat) → Follows top f d e → ⊥) → SiblingRow f d 0

-- ---- for a caller

-- from a row, by its parent and that one's parent, the root is reached in so many steps
pub data Ascent (table : List ℕ) : (row steps : ℕ) → Type 0 where
  there : Ascent table 0 0
  up : {row steps : ℕ} → 0 < row → Ascent table (parent_in table row) steps → Ascent table row (suc steps)

-- from a row, by its next sibling and that one's next sibling until there is none, these rows are passed
pub data Line (table : List ℕ) : (row : ℕ) → List ℕ → Type 0 where
  end : {row : ℕ} → sibling_in table row ≡ 0 → Line table row (row ∷ [])
  on : {row : ℕ} {rows : List ℕ} → 0 < sibling_in table row → Line table (sibling_in table row) rows → Line table row (row ∷ rows)

-- Following siblings from the first child of the value at d, in the tree f, lists just its children, each once and in their order.
pub record Children (table : List ℕ) (f : Forest) (d : Seat) : Type 0 where
  pub rows : List ℕ
  pub line : Line table (d.after + 1) rows
  pub ordered : Climbs rows
  pub just : (row : ℕ) → Some (λ x. x ≡ row) rows ↔ ((e : Seat) × Holds top f d e × (e.after ≡ row))

-- how the two words of a row agree with the number of values below
pub record Agrees (table : List ℕ) (row : ℕ) : Type 0 where
  -- the root has neither parent nor sibling
  pub root : row ≡ 0 → (parent_in table row ≡ 0) × (sibling_in table row ≡ 0)
  -- the row is one of those below its parent
  pub below_parent : 0 < row → (parent_in table row < row) × (row ≤ parent_in table row + below_in table (parent_in table row))
  -- where values are below it, the first of them stands in the next row
  pub first_child : 0 < below_in table row → parent_in table (row + 1) ≡ row
  -- its next sibling stands right behind what is below it, has the same parent, and is one of the rows below that
  pub next_behind : 0 < sibling_in table row
      → (sibling_in table row ≡ row + 1 + below_in table row) × (parent_in table (sibling_in table row) ≡ parent_in table row)
      × (sibling_in table row ≤ parent_in table row + below_in table (parent_in table row))
  -- where it has none, what is below its parent ends with what is below it
  pub last_ends : 0 < row → sibling_in table row ≡ 0 → row + below_in table row ≡ parent_in table row + below_in table (parent_in table row)

-- ---- what reading promises of the two words

-- of the rows of the tree f, from row 0 of a table on
pub record Kinship (table : List ℕ) (f : Forest) : Type 0 where
  -- the row of each value says its parent's row, and its next sibling's
  pub parents : (d : Seat) (h : Head) → Sits top f d h → (row : ℕ) → (parent_in table d.after ≡ row) ↔ ParentRow f d row
  pub siblings : (d : Seat) (h : Head) → Sits top f d h → (row : ℕ) → (sibling_in table d.after ≡ row) ↔ SiblingRow f d row
  -- climbing from row to parent ends at the root, in as many steps as containers are around the value, so in no more than the depth
  pub ascents : (d : Seat) (h : Head) → Sits top f d h → Ascent table d.after d.inside × (d.inside ≤ depth_of f)
  -- following siblings from a container's first child lists just its children, in order
  pub children : (d : Seat) (h : Head) → Sits top f d h → 0 < h.below → Children table f d
  -- and both agree with the number of values below
  pub agrees : (row : ℕ) → row < size f → Agrees table row
