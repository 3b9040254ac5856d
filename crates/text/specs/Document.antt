-- Documents: what a text says, without places, rows or white space. What a card breaks and how it is patched are defined on documents alone; the patched
-- card is then written, and judged as any text is.
-- Assumes nothing: these are definitions.
use Rattle.std.specs.Prelude.{ℕ, suc, ◌+◌, List, [], Bool, true, false, cond}
use Rattle.std.proofs.Math.Option.{Option, none, some}
use Rattle.laws.specs.Order.{same}

-- decoded bytes
abbrev pub Name : Type 0
Name = List ℕ

mutual
  -- a value that holds no others, with its kind (1 to 5) and its token as written; an array; an object
  pub data Doc : Type 0 where
    scalar : (kind : ℕ) → (token : List ℕ) → Doc
    array : Members → Doc
    object : Members → Doc

  -- A member: its decoded name, its name as written (quotes included), its value; and the members after it.
  -- As in a row, an entry of an array has no name: both are empty.
  pub data Members : Type 0 where
    empty : Members
    member : Name → (label : List ℕ) → Doc → Members → Members

-- ---- kinds and counts, as in the rows

-- the kind of a value: 1 to 5, 6 for an array, 7 for an object
abbrev pub kind_of : Doc → ℕ
kind_of (scalar kind token) = kind
kind_of (array ms) = 6
kind_of (object ms) = 7

-- the token of a value that holds no others; no bytes for an array or an object
abbrev pub token_of : Doc → List ℕ
token_of (scalar kind token) = token
token_of (array ms) = []
token_of (object ms) = []

-- what stands right below a value
abbrev pub children_of : Doc → Members
children_of (scalar kind token) = empty
children_of (array ms) = ms
children_of (object ms) = ms

unfoldable mutual
  -- the values of a document, itself included
  pub count_of : Doc → ℕ
  count_of (scalar kind token) = 1
  count_of (array ms) = suc (count_all ms)
  count_of (object ms) = suc (count_all ms)

  -- the values of some members, those inside them too
  pub count_all : Members → ℕ
  count_all empty = 0
  count_all (member n label d ms) = count_of d + count_all ms

-- ---- the member of a name

-- a member without its decoded name: its name as written, and its value
pub record Property : Type 0 where
  pub label : List ℕ
  pub content : Doc

-- the record of the two
abbrev pub property : List ℕ → Doc → Property
property label d = record { label = label; content = d }

-- the first member of that name, if there is one
abbrev pub seek : Name → Members → Option Property
seek n empty = none
seek n (member m label d ms) = let more = seek n ms in cond (same m n) (some (property label d)) more

-- is there one?
abbrev pub is_there : {A : Type 0} → Option A → Bool
is_there none = false
is_there (some x) = true
