-- Where the values of an accepted text stand in it: one after the other without overlap, those inside a container strictly within it, each with
-- the bytes that its kind asks, names before their values. This is what reading promises of the places in its rows.
-- Assumes nothing: these are definitions.
use Rattle.std.specs.Prelude.{ℕ, ◌+◌, ◌-◌, ◌≤◌, ◌<◌, ◌≡◌, List, length}
use Rattle.laws.specs.Lists.{part_of}
use Rattle.text.specs.Text.{byte_at, bytes}
use Rattle.text.specs.Spelling.{Spells}
use Rattle.text.specs.Abnf.{Between}
use Rattle.text.specs.Forest.{Bracket, square, curly, bracket_kind, Forest, none, leaf, node}
use Rattle.text.specs.Grammar.{Number, opening, closing}

-- ---- strings and names

-- from i up to e stands what is between two quotes, inside the text, and it spells some characters
pub record Quoted (t : List ℕ) (i e : ℕ) : Type 0 where
  pub first : 0 < i
  pub ordered : i ≤ e
  pub inside : e < length t
  pub opens : byte_at t (i - 1) ≡ 0x22
  pub closes : byte_at t e ≡ 0x22
  pub codes : List ℕ
  pub spells : Spells (part_of t i e) codes

-- docs/RULES.md, 4: the root and the elements of arrays have the name 0, 0
pub record Unnamed (ns ne : ℕ) : Type 0 where
  pub start : ns ≡ 0
  pub end : ne ≡ 0

-- a member's name: its quotes stand at or after `from` and before its value
pub record MemberName (t : List ℕ) (from ns ne at : ℕ) : Type 0 where
  pub quoted : Quoted t ns ne
  pub after : from < ns
  pub before : ne < at

-- the name of a value in a container of such a bracket; the root counts as an element
abbrev pub NameIn : List ℕ → Bracket → (from ns ne at : ℕ) → Type 0
NameIn t square from ns ne at = Unnamed ns ne
NameIn t curly from ns ne at = MemberName t from ns ne at

-- ---- values that hold no others

-- what stands from a place to another, by its kind: 1 null, 2 false, 3 true, 4 a number, 5 a string with its quotes
pub data TokenIn (t : List ℕ) : (kind from to : ℕ) → Type 0 where
  null : {from to : ℕ} → part_of t from to ≡ bytes "null" → TokenIn t 1 from to
  falsity : {from to : ℕ} → part_of t from to ≡ bytes "false" → TokenIn t 2 from to
  truth : {from to : ℕ} → part_of t from to ≡ bytes "true" → TokenIn t 3 from to
  number : {from to : ℕ} → Number (part_of t from to) → TokenIn t 4 from to
  string : {from to : ℕ} → Quoted t (from + 1) (to - 1) → TokenIn t 5 from to

-- ---- values

-- the first byte of a value of a kind: n, f and t of the three words, a minus or a digit, a quote, a bracket or a brace
pub data FirstByte : (kind byte : ℕ) → Type 0 where
  null : FirstByte 1 0x6E
  falsity : FirstByte 2 0x66
  truth : FirstByte 3 0x74
  minus : FirstByte 4 0x2D
  digit : {x : ℕ} → Between 0x30 0x39 x → FirstByte 4 x
  quote : FirstByte 5 0x22
  bracket : (b : Bracket) → FirstByte (bracket_kind b) (opening b)

-- A value of a kind in a container of such a bracket, with its name's places and its own: it starts at or after `from`, it is not empty, it is inside
-- the text, and its first byte begins its kind.
pub record Spot (t : List ℕ) (b : Bracket) (from kind ns ne at end : ℕ) : Type 0 where
  pub name : NameIn t b from ns ne at
  pub start : from ≤ at
  pub some : at < end
  pub inside : end ≤ length t
  pub begins : FirstByte kind (byte_at t at)

-- From `from` up to `to` stand these values, as the items of a container of such a bracket.
pub data Placed (t : List ℕ) : Bracket → Forest → (from to : ℕ) → Type 0 where
  nothing : {b : Bracket} {from to : ℕ} → from ≤ to → Placed t b none from to
  token : {b : Bracket} {kind ns ne at end from to : ℕ} {rest : Forest} → Spot t b from kind ns ne at end → TokenIn t kind at end
      → Placed t b rest end to → Placed t b (leaf kind ns ne at end rest) from to
  -- what is inside a container stands after its bracket and before its closing byte
  box : {b c : Bracket} {ns ne at end from to : ℕ} {inside rest : Forest} → Spot t b from (bracket_kind c) ns ne at end → byte_at t (end - 1) ≡ closing c
      → Placed t c inside (at + 1) (end - 1) → Placed t b rest end to → Placed t b (node c ns ne at end inside rest) from to
