-- What document a text says, white space or not: names and strings by what they spell, literals and numbers as they are written, items in their
-- order. The tree gives the places. Assumes nothing: these are definitions.
use Rattle.std.specs.Prelude.{ℕ, ◌+◌, ◌≡◌, List, [], ◌++◌, length}
use Rattle.text.specs.Strings.{content_of}
use Rattle.text.specs.Forest.{square, curly, Forest, none, leaf, node}
use Rattle.text.specs.Document.{Name, Doc, scalar, array, object, Members, empty, member}
use Rattle.text.specs.Labels.{Labelled}

-- the bytes of a text from one place up to another
pub record Stretch (t : List ℕ) (from to : ℕ) (w : List ℕ) : Type 0 where
  pub before : List ℕ
  pub after : List ℕ
  pub whole : t ≡ before ++ (w ++ after)
  pub starts : length before ≡ from
  pub ends : from + length w ≡ to

-- what the name of a value says: none where its places are 0, else the UTF-8 of the code points that it spells between its quotes
pub data NameTold (t : List ℕ) : (ns ne : ℕ) → Name → (label : List ℕ) → Type 0 where
  unnamed : NameTold t 0 0 [] []
  named : {i e : ℕ} {n : Name} {label : List ℕ} → Stretch t i (e + 1) label → Labelled n label → NameTold t (i + 1) e n label

-- What the token of a value that holds no others says: a literal and a number themselves, as they are written; a string what it spells between its
-- quotes, and that is its content.
pub data TokenTold : (kind : ℕ) → (token : List ℕ) → Type 0 where
  as_written : {kind : ℕ} {token : List ℕ} → (kind ≡ 5 → ⊥) → TokenTold kind token
  string : {content : Name} {token : List ℕ} → Labelled content token → content_of token ≡ content → TokenTold 5 token

-- the values of a tree, in their order, as members
pub data TellsAll (t : List ℕ) : Forest → Members → Type 0 where
  nothing : TellsAll t none empty
  token : {kind ns ne from to : ℕ} {rest : Forest} {n : Name} {label w : List ℕ} {ms : Members} → NameTold t ns ne n label → Stretch t from to w
      → TokenTold kind w → TellsAll t rest ms → TellsAll t (leaf kind ns ne from to rest) (member n label (scalar kind w) ms)
  entries : {ns ne from to : ℕ} {inside rest : Forest} {n : Name} {label : List ℕ} {es ms : Members} → NameTold t ns ne n label
      → TellsAll t inside es → TellsAll t rest ms → TellsAll t (node square ns ne from to inside rest) (member n label (array es) ms)
  members : {ns ne from to : ℕ} {inside rest : Forest} {n : Name} {label : List ℕ} {es ms : Members} → NameTold t ns ne n label
      → TellsAll t inside es → TellsAll t rest ms → TellsAll t (node curly ns ne from to inside rest) (member n label (object es) ms)

-- the document that a text with such a tree says: that of the tree's one value, which has no name
pub data Tells (t : List ℕ) : Forest → Doc → Type 0 where
  tells : {f : Forest} {d : Doc} → TellsAll t f (member [] [] d empty) → Tells t f d
