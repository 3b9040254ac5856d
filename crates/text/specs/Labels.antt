-- What it is for a name as written (a label) to say a name; and what it is that something holds of every name and every token of a document.
-- Assumes nothing: these are definitions.
use Rattle.std.specs.Prelude.{ℕ, ◌≡◌, List, [], ◌∷◌, ◌++◌}
use Rattle.text.specs.Document.{Name, Doc, scalar, array, object, Members, empty, member}
use Rattle.text.specs.Spelling.{Spells, utf8s}

-- what is written says the name: between its quotes it spells code points whose UTF-8 is the name
pub record Labelled (name : Name) (label : List ℕ) : Type 0 where
  pub inside : List ℕ
  pub codes : List ℕ
  pub quoted : label ≡ 0x22 ∷ inside ++ (0x22 ∷ [])
  pub spells : Spells inside codes
  pub says : name ≡ utf8s codes

-- no name, neither decoded nor as written
pub record Unlabelled (name : Name) (label : List ℕ) : Type 0 where
  pub nameless : name ≡ []
  pub unwritten : label ≡ []

-- N holds of every member's name and label, T of the kind and the token of every value that holds no others, at any depth
module _ (N : Name → (label : List ℕ) → Type 0) (T : (kind : ℕ) → (token : List ℕ) → Type 0) where
  abbrev mutual
    -- in a document
    pub Every : Doc → Type 0
    Every (scalar kind token) = T kind token
    Every (array ms) = EveryEntry ms
    Every (object ms) = EveryMember ms

    -- in the entries of an array, which have no names
    pub EveryEntry : Members → Type 0
    EveryEntry empty = Prim.Unit {0}
    EveryEntry (member n label d ms) = Unlabelled n label × Every d × EveryEntry ms

    -- in the members of an object
    pub EveryMember : Members → Type 0
    EveryMember empty = Prim.Unit {0}
    EveryMember (member n label d ms) = N n label × Every d × EveryMember ms
