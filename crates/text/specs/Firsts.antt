-- The first of some values that stand one beside the other: its words, what is inside it and what follows it, so that a law of
-- the first value needn't ask of what sort it is.
-- Where there are no values, all is 0 or nothing. Assumes nothing: these are definitions.
use Rattle.std.specs.Prelude.{ℕ, ◌≤◌, ◌<◌, Bool, true, false}
use Rattle.text.specs.Seats.{Head}
use Rattle.text.specs.Tree.{bracket_kind, Forest, none, leaf, node, size}

-- there is a first value
abbrev pub HasFirst : Forest → Type 0
HasFirst none = ⊥
HasFirst (leaf kind ns ne from to rest) = Prim.Unit {0}
HasFirst (node b ns ne from to inside rest) = Prim.Unit {0}

-- its kind: 1 to 5, 6 for an array, 7 for an object
abbrev pub kind_at : Forest → ℕ
kind_at none = 0
kind_at (leaf kind ns ne from to rest) = kind
kind_at (node b ns ne from to inside rest) = bracket_kind b

-- where its name starts, after the quote
abbrev pub name_start : Forest → ℕ
name_start none = 0
name_start (leaf kind ns ne from to rest) = ns
name_start (node b ns ne from to inside rest) = ns

-- where its name ends, before the quote
abbrev pub name_end : Forest → ℕ
name_end none = 0
name_end (leaf kind ns ne from to rest) = ne
name_end (node b ns ne from to inside rest) = ne

-- where it starts itself
abbrev pub start_at : Forest → ℕ
start_at none = 0
start_at (leaf kind ns ne from to rest) = from
start_at (node b ns ne from to inside rest) = from

-- where it ends itself
abbrev pub end_at : Forest → ℕ
end_at none = 0
end_at (leaf kind ns ne from to rest) = to
end_at (node b ns ne from to inside rest) = to

-- what is inside it
abbrev pub inside_at : Forest → Forest
inside_at none = none
inside_at (leaf kind ns ne from to rest) = none
inside_at (node b ns ne from to inside rest) = inside

-- how many values that are
abbrev pub below_at : Forest → ℕ
below_at f = size (inside_at f)

-- may it hold others?
abbrev pub holds_at : Forest → Bool
holds_at none = false
holds_at (leaf kind ns ne from to rest) = false
holds_at (node b ns ne from to inside rest) = true

-- the first value without what is inside it
abbrev pub head_at : Forest → Head
head_at f = record { holds = holds_at f; kind = kind_at f; ns = name_start f; ne = name_end f; from = start_at f; to = end_at f; below = below_at f }

-- the values that follow it
abbrev pub rest_at : Forest → Forest
rest_at none = none
rest_at (leaf kind ns ne from to rest) = rest
rest_at (node b ns ne from to inside rest) = rest

-- a kind of a value that holds no others
pub record ScalarKind (kind : ℕ) : Type 0 where
  pub least : 1 ≤ kind
  pub most : kind < 6

-- The values that hold no others have a kind of 1 to 5, so that a row's kind tells a container.
-- Without this a row of kind 6 with nothing below it could be either.
abbrev pub Kinds : Forest → Type 0
Kinds none = Prim.Unit {0}
Kinds (leaf kind ns ne from to rest) = ScalarKind kind × Kinds rest
Kinds (node b ns ne from to inside rest) = Kinds inside × Kinds rest
